use Rattle.std.proofs.Common.{rules, tests}
use Rattle.std.proofs.lemmas.Iterator.Search.{find_from_yields_List}
use Rattle.line.specs.SheetLaws.{handshake_of_visit}
use Rattle.line.proofs.Handing.{records_yielded}
use Rattle.line.proofs.sheet.Sheet.first_handshake.Goals as goal

pub returns : goal.returns
returns c =
    find_from_yields_List (handshake_of_visit c.args.visit) _ _ _ c.find.ensures.ran (records_yielded c.of.result c.args.self.now.bytes.now c.of.ensures) (λ x b q k. search (rules, tests))
