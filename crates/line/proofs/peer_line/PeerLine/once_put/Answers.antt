use Rattle.std.proofs.Common.{take, arith}
use Rattle.line.proofs.Soundness.{facts}
use Rattle.line.proofs.peer_line.PeerLine.once_put.Goals as goal

pub overflow_add-result : goal.overflow_add-result
overflow_add-result g c =
    let s = c.args.self.now in
    let f = facts (take s.state.used s.out.now) s.state s.sound in
    omega (arith, f.amount, s.few)

pub overflow_add-result-else-is_covered : goal.overflow_add-result-else-is_covered
overflow_add-result-else-is_covered g c =
    let s = c.args.self.now in
    let f = facts (take s.state.used s.out.now) s.state s.sound in
    omega (arith, f.amount, s.few)
