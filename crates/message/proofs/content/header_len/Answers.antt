use Rattle.std.proofs.Common.{◌∙◌, not, length, take_while, sym, ap, rules, tests}
use Rattle.message.specs.Lines.{lines_of, joined, empty_line}
use Rattle.message.proofs.Headed.{before_while}
use Rattle.message.proofs.content.header_len.Goals as goal

pub front_len-requires-clause-computes : goal.front_len-requires-clause-computes
front_len-requires-clause-computes c = ((λ l. not (empty_line l)), λ x r k. search (rules, tests))

pub returns : goal.returns
returns c =
    let s = c.args.section.now in
    c.front_len.ensures.is (λ l. not (empty_line l)) (λ x r k. search (rules, tests)) ∙ ap (λ t. length (joined (take_while (λ l. not (empty_line l)) (lines_of t)))) c.lines_of.ensures ∙ ap (λ ls. length (joined ls)) (sym (before_while (lines_of s)))
