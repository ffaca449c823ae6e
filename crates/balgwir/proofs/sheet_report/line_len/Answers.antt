use Rattle.std.proofs.Common.{subst, List, ℕ, rules, tests}
use Rattle.std.proofs.lemmas.Iterator.{YieldsList}
use Rattle.std.specs.Slice.Iter.{windows_steps}
use Rattle.std.proofs.lemmas.Iterator.Search.{position_from_yields_List}
use Rattle.balgwir.proofs.Lines.{pairs, pairs_yielded, is_crlf, line_len_by_pairs}
use Rattle.balgwir.proofs.sheet_report.line_len.Goals as goal

pub returns-clause-is : goal.returns-clause-is
returns-clause-is c =
    let P : List ℕ → Type 0 = λ s. YieldsList windows_steps (λ w. w.now) c.windows.result (pairs s) in
    let y : P c.args.s.now = subst P c.windows.ensures.rest (pairs_yielded c.windows.result c.windows.ensures.size) in
    line_len_by_pairs c.args.s.now c.position-first.result c.unwrap_or.result
    (position_from_yields_List is_crlf _ _ c.position-first.result c.position-first.ensures.ran y (λ x b q k. search (rules, tests)))
    (search rules)
