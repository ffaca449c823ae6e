use Rattle.std.proofs.Common.{Option, ap, ◌∙◌}
use Rattle.std.specs.Option.{option_map}
use Rattle.line.specs.declared.house_answer.Answer.{Answer}
use Rattle.line.specs.HouseHost.{host_of, answer_next, note_of}
use Rattle.line.specs.Calls.{piece}
use Rattle.line.proofs.HousePeer.{note_more}
use Rattle.line.proofs.house_line.HouseHostPeer.note_put.Goals as goal

pub returns : goal.returns
returns c =
    let h = host_of c.args.self.now in
    let p = piece c.args.covered c.args.bytes.now in
    let m = c.note_of.ensures ∙ ap note_of c.next_answer.ensures ∙ ap (λ (o : Option Answer). note_of (option_map (λ (a : Answer). answer_next h a p) o)) c.noted_answer-before.ensures in
    λ name ps k. note_more h name ps p c.args.note c.in_ok-note.field-0 c.note_of.result c.in_ok-note.was m k
