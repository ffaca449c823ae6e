use Rattle.std.proofs.Common.{take, ◌∙◌}
use Rattle.line.specs.Transcripts.{name_in, pieces_in}
use Rattle.line.proofs.Soundness.{facts, idle_is}
use Rattle.line.proofs.peer_calls.PeerLineLine.standing.Goals as goal

pub returns-clause-quiet : goal.returns-clause-quiet
returns-clause-quiet g c =
    let s = c.args.self.now in
    let st = s.state in
    let text = take st.used s.out.now in
    idle_is st.standing st.due (name_in text st) (pieces_in text st) ∙ (facts text st s.sound).calmed
