use Rattle.std.proofs.Common.{arith}
use Rattle.line.proofs.house_line.HouseHostPeer.handshake_noted.Goals as goal

pub lay-requires : goal.lay-requires
lay-requires c = let s = c.answer_by.ensures.short c.in_ok-answer_by.field-0 c.in_ok-answer_by.was in omega arith
