use Rattle.std.proofs.Common.{◌∙◌, rules, tests}
use Rattle.std.proofs.lemmas.Iterator.Consumers.{fold_from_yields_List}
use Rattle.line.specs.declared.house_answer.Answer.TheVariants.{Greeting}
use Rattle.line.specs.HouseHost.{host_of, answer_next}
use Rattle.line.specs.Layout.{records}
use Rattle.line.specs.Pieces.{piece_of}
use Rattle.line.proofs.Handing.{records_yielded}
use Rattle.line.proofs.HousePeer.{fold_answers}
use Rattle.line.proofs.house_line.last_answer.Goals as goal

pub returns : goal.returns
returns c =
    let h = host_of c.args.host in
    fold_from_yields_List _ (λ a r. answer_next h a (piece_of r)) Greeting c.fold.result c.fold.ensures.ran
    (records_yielded c.of.result c.args.pieces.now c.of.ensures) (λ a x b q k. search (rules, tests))
    ∙ fold_answers h Greeting (records c.args.pieces.now)
