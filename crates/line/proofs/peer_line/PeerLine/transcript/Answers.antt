use Rattle.std.proofs.Common.{take, sym}
use Rattle.line.proofs.Laws.{layout_holds}
use Rattle.line.proofs.Soundness.{facts}
use Rattle.line.proofs.peer_line.PeerLine.transcript.Goals as goal

pub returns-clause-text : goal.returns-clause-text
returns-clause-text g c =
    let s = c.args.self.now in
    let text = take s.state.used s.out.now in
    sym (layout_holds.write_back text (facts text s.state s.sound).whole_text)
