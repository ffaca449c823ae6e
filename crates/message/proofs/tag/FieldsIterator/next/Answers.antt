use Rattle.std.proofs.Common.{◌∙◌, sym, ap, arith, rules, tests}
use Rattle.message.specs.Lines.{lines_of}
use Rattle.message.specs.Tags.{folded}
use Rattle.message.proofs.Lined.{first_len}
use Rattle.message.proofs.Tags.{next_field}
use Rattle.message.proofs.tag.FieldsIterator.next.Goals as goal

pub front_len-requires-clause-computes : goal.front_len-requires-clause-computes
front_len-requires-clause-computes c = (folded, λ x r k. search (rules, tests))

pub split_at-requires : goal.split_at-requires
split_at-requires c =
    let e = ap lines_of (sym c.lines_of-lines.ensures) ∙ c.in_ok-first.ensures.steps in
    omega (arith, (first_len c.args.self.now.rest.now c.in_ok-first.first.now c.next.new.self.rest.now e).1)

pub returns-clause-steps : goal.returns-clause-steps
returns-clause-steps c =
    next_field c.args.self.now.rest.now c.in_ok-first.first.now c.next.new.self.rest.now c.split_at.result.0.now c.split_at.result.1.now c.front_len.result
    (ap lines_of (sym c.lines_of-lines.ensures) ∙ c.in_ok-first.ensures.steps) (c.front_len.ensures.is folded (λ x r k. search (rules, tests))) c.split_at.ensures.front c.split_at.ensures.back

pub returns-clause-goes : goal.returns-clause-goes
returns-clause-goes c =
    let e = ap lines_of (sym c.lines_of-lines.ensures) ∙ c.in_ok-first.ensures.steps in
    let l = first_len c.args.self.now.rest.now c.in_ok-first.first.now c.next.new.self.rest.now e in
    let b = c.split_at.ensures.back_len in
    search rules
