use Rattle.std.proofs.Common.{Bool, cond, Some, None, sym, ap}
use Rattle.smtp.proofs.Alike.{same_len}
use Rattle.line.specs.HouseHost.{host_of, last_answer}
use Rattle.line.specs.Pieces.{pieces_of}
use Rattle.line.proofs.house_line.answer_by.Goals as goal

pub returns-then-visit-host-clause-is : goal.returns-then-visit-host-clause-is
returns-then-visit-host-clause-is c =
    let v = c.args.visit in
    let h = c.args.host in
    λ k. ap (λ (b : Bool). cond b (Some (last_answer (host_of h) (pieces_of v.pieces.now))) None) (sym (same_len v.name.now h.name.now c.if-visit-host.true))
