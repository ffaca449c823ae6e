use Rattle.std.proofs.Common.{◌≡◌, false, take, sym, ap, arith}
use Rattle.line.specs.Model.{piece_count}
use Rattle.line.specs.Transcripts.{is_closed, name_in, pieces_in}
use Rattle.line.proofs.Soundness.{facts, opened_as, count_all}
use Rattle.line.proofs.peer_calls.PeerLineLine.pieces.Goals as goal

pub overflow_add-result : goal.overflow_add-result
overflow_add-result g c =
    let s = c.args.self.now in
    let f = facts (take s.state.used s.out.now) s.state s.sound in
    omega (arith, f.amount, s.few)

pub returns-else-is_closed : goal.returns-else-is_closed
returns-else-is_closed g c =
    let s = c.args.self.now in
    let text = take s.state.used s.out.now in
    let f = facts text s.state s.sound in
    let o : is_closed s.state.standing ≡ false = sym c.if-is_closed.ensures in
    let k = ap piece_count (opened_as s.state.standing (name_in text s.state) (pieces_in text s.state) o) in
    let n = count_all (pieces_in text s.state) in
    let e = f.clears in
    let h = f.covereds in
    omega arith
