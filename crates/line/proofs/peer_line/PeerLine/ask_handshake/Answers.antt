use Rattle.std.proofs.Common.{ap, ◌∙◌, take}
use Rattle.std.specs.Option.{option_map}
use Rattle.line.specs.Calls.{laid, names_of}
use Rattle.line.specs.Peers.{sized}
use Rattle.line.proofs.Soundness.{asked_handshake, noted_asked}
use Rattle.line.proofs.peer_line.PeerLine.ask_handshake.Goals as goal

pub returns : goal.returns
returns g c =
    let s = c.args.self.now in
    let v = c.visit_now.ensures in
    let e = asked_handshake (g.P.Peer.rule s.peer) (take s.state.used s.out.now) s.state c.visit_now.result v.number v.name v.pieces in
    let k = noted_asked (g.P.Peer.noted s.peer) (take s.state.used s.out.now) s.state c.visit_now.result s.note v.name v.pieces s.noted in
    record { answer = c.handshake_noted.ensures.answer k ∙ ap (option_map sized) e; buffer = c.handshake_noted.ensures.buffer k ∙ ap (λ o. laid (names_of o) c.args.names.now) e }
