use Rattle.std.proofs.Common.{◌∙◌, refl, sym, length, take_while, arith, rules, tests}
use Rattle.std.proofs.lemmas.Iterator.Consumers.{sum_by_from_yields_List, fits_by_from_yields_list}
use Rattle.message.specs.Lines.{lines_of}
use Rattle.message.proofs.Chains.{front_lengths}
use Rattle.message.proofs.Headed.{joined_sum, front_most}
use Rattle.message.proofs.lines.front_len.Goals as goal

pub sum-requires-clause-fits : goal.sum-requires-clause-fits
sum-requires-clause-fits g c =
    let t = c.args.lines.rest.now in
    let (test, h) = c.requires.computes in
    fits_by_from_yields_list length (take_while test (lines_of t)) c.map.result _
    (front_lengths {s = c.args.lines} _ _ test t refl c.take_while.ensures.source c.take_while.ensures.closure c.take_while.ensures.done (λ x b q k. search (rules, h, tests)) c.map.ensures.source c.map.ensures.closure (λ x r q k. search rules))
    (omega (arith, front_most test t, joined_sum (take_while test (lines_of t))))

pub returns : goal.returns
returns g c =
    let t = c.args.lines.rest.now in
    let (some, k) = c.requires.computes in
    let e = sum_by_from_yields_List length (take_while some (lines_of t)) c.map.result c.sum.result c.sum.ensures.ran
    (front_lengths {s = c.args.lines} _ _ some t refl c.take_while.ensures.source c.take_while.ensures.closure c.take_while.ensures.done (λ x b q l. search (rules, k, tests)) c.map.ensures.source c.map.ensures.closure (λ x r q l. search rules))
    ∙ sym (joined_sum (take_while some (lines_of t))) in
    record {
      is = λ test h.
          sum_by_from_yields_List length (take_while test (lines_of t)) c.map.result c.sum.result c.sum.ensures.ran
          (front_lengths {s = c.args.lines} _ _ test t refl c.take_while.ensures.source c.take_while.ensures.closure c.take_while.ensures.done (λ x b q k. search (rules, h, tests)) c.map.ensures.source c.map.ensures.closure (λ x r q k. search rules))
          ∙ sym (joined_sum (take_while test (lines_of t)));
      within = omega (arith, e, front_most some t);
    }
