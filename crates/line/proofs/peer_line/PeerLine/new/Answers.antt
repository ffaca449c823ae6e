use Rattle.std.proofs.Common.{◌≡◌, length, take, refl, ap, ◌∙◌, arith}
use Rattle.line.specs.declared.state.State.{State}
use Rattle.line.specs.Transcripts.{sense, sound}
use Rattle.line.proofs.Soundness.{sound_fresh, sense_fresh}
use Rattle.line.proofs.peer_line.PeerLine.new.Goals as goal

pub invariant_of-result : goal.invariant_of-result
invariant_of-result g c =
    let e = c.fresh-state.ensures in
    let u : c.fresh-state.result.used ≡ 0 = ap (λ (s : State). s.used) e in
    let l : c.fresh-state.result.long ≡ 0 = ap (λ (s : State). s.long) e in
    record { within = omega arith; few = omega arith; short = omega (arith, l); noted = refl; sound = ap (λ (s : State). sound (take s.used c.args.transcript.now) s) e ∙ sound_fresh }

pub returns-clause-means : goal.returns-clause-means
returns-clause-means g c =
    let out = c.args.transcript.now in
    let r = g.P.Peer.rule c.args.peer in
    ap (λ (z : State). sense r (take z.used out) (length out) z) c.fresh-state.ensures ∙ sense_fresh r (length out)
