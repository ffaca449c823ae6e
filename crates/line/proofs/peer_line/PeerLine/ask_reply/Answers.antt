use Rattle.std.proofs.Common.{ap, ◌∙◌, take, length}
use Rattle.std.specs.Option.{option_map}
use Rattle.line.specs.Calls.{laid}
use Rattle.line.proofs.Soundness.{asked_reply, noted_asked}
use Rattle.line.proofs.peer_line.PeerLine.ask_reply.Goals as goal

pub returns : goal.returns
returns g c =
    let s = c.args.self.now in
    let v = c.visit_now.ensures in
    let e = asked_reply (g.P.Peer.rule s.peer) (take s.state.used s.out.now) s.state c.visit_now.result v.number v.name v.pieces c.if-not-self.false in
    let k = noted_asked (g.P.Peer.noted s.peer) (take s.state.used s.out.now) s.state c.visit_now.result s.note v.name v.pieces s.noted in
    record { answer = c.reply_noted.ensures.answer k ∙ ap (option_map length) e; buffer = c.reply_noted.ensures.buffer k ∙ ap (λ o. laid o c.args.reply.now) e }
