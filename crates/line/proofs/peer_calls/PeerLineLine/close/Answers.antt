use Rattle.line.proofs.Soundness.{sound_as, short_quiet, noted_quiet}
use Rattle.line.proofs.peer_calls.PeerLineLine.close.Goals as goal

pub invariant_of-self : goal.invariant_of-self
invariant_of-self g c =
    let s = c.args.self.now in
    let d = sound_as s.out.now s.state c.quiet-self.result _ c.quiet-self.ensures s.within s.few s.sound in
    record { within = d.within; few = d.few; short = short_quiet s.state _ _ c.quiet-self.ensures s.short; sound = d.keeps; noted = noted_quiet (g.P.Peer.noted s.peer) s.out.now s.state c.quiet-self.result _ s.note c.quiet-self.ensures s.noted }
