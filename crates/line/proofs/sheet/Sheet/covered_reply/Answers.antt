use Rattle.std.proofs.Common.{List, ap, ◌∙◌, rules, tests}
use Rattle.std.specs.List.{slice_get}
use Rattle.std.proofs.lemmas.Iterator.{YieldsList-from_map_by}
use Rattle.std.proofs.lemmas.Iterator.Consumers.{YieldsList-at, YieldsList-from_filter, nth_from_yields_List}
use Rattle.std.proofs.lemmas.Iterator.Adapters.{YieldsList-from_skip_while}
use Rattle.line.specs.Layout.{records}
use Rattle.line.specs.Model.{Bytes}
use Rattle.line.proofs.Handing.{records_yielded}
use Rattle.line.proofs.Searches.{in_visit, goes_before, holds_reply, replied_behind}
use Rattle.line.proofs.sheet.Sheet.covered_reply.Goals as goal

pub returns : goal.returns
returns c =
    nth_from_yields_List c.nth.result _ c.args.skip c.nth.ensures.ran
    (YieldsList-from_map_by _ (λ x. x.now) (λ r. r.bytes)
    (YieldsList-at c.map.ensures.source
    (YieldsList-from_filter _ holds_reply
    (YieldsList-at c.filter-2.ensures.source
    (YieldsList-from_skip_while _ _ _ goes_before _ (λ x b q k. search (rules, tests))
    (YieldsList-at c.skip_while.ensures.source
    (YieldsList-from_filter _ (in_visit c.args.visit)
    (YieldsList-at c.filter.ensures.source (records_yielded c.of.result c.args.self.now.bytes.now c.of.ensures))
    c.filter.ensures.closure (λ x b q k. search (rules, tests))))
    c.skip_while.ensures.closure c.skip_while.ensures.done_skipping))
    c.filter-2.ensures.closure (λ x b q k. search (rules, tests))))
    c.map.ensures.closure (λ x b q k. search (rules, tests)))
    ∙ ap (λ (xs : List Bytes). slice_get xs c.args.skip) (replied_behind c.args.visit (records c.args.self.now.bytes.now))
