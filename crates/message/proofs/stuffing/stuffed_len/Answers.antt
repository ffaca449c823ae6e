use Rattle.std.proofs.Common.{◌∙◌, arith, rules, tests}
use Rattle.std.proofs.lemmas.Iterator.Consumers.{YieldsList-at, YieldsList-from_filter, count_from_yields_List}
use Rattle.message.specs.Lines.{lines_of}
use Rattle.message.specs.Stuffing.{dot_first}
use Rattle.message.proofs.Chains.{lines_yielded}
use Rattle.message.proofs.Stuffed.{dots_are, dots_most}
use Rattle.message.proofs.stuffing.stuffed_len.Goals as goal

pub overflow_add-result-2 : goal.overflow_add-result-2
overflow_add-result-2 c =
    let e = count_from_yields_List c.filter.result c.count-dots.result c.count-dots.ensures.ran
    (YieldsList-from_filter _ dot_first (YieldsList-at c.filter.ensures.source (lines_yielded c.args.content.now c.lines_of.ensures)) c.filter.ensures.closure (λ x b q k. search (rules, tests)))
    ∙ dots_are (lines_of c.args.content.now) in
    let f = dots_most c.args.content.now in
    omega arith

pub returns : goal.returns
returns c =
    let e = count_from_yields_List c.filter.result c.count-dots.result c.count-dots.ensures.ran
    (YieldsList-from_filter _ dot_first (YieldsList-at c.filter.ensures.source (lines_yielded c.args.content.now c.lines_of.ensures)) c.filter.ensures.closure (λ x b q k. search (rules, tests)))
    ∙ dots_are (lines_of c.args.content.now) in
    omega arith
