use Rattle.std.proofs.Common.{◌+◌, ◌-◌, length, drop, refl, sym, ap, ◌∙◌, eqb, arith, rules, tests, length-drop}
use Rattle.std.proofs.lemmas.List.{take_all}
use Rattle.std.proofs.lemmas.Iterator.{YieldsList-from_slice}
use Rattle.std.proofs.lemmas.Iterator.Search.{position_from_yields_List}
use Rattle.std.specs.Option.{option_map}
use Rattle.message.specs.MailParts.{cut}
use Rattle.message.proofs.MailParted.{short_body, no_close, command_is}
use Rattle.message.proofs.mail_line.Command.read.Goals as goal

pub returns-in_err-words : goal.returns-in_err-words
returns-in_err-words c =
    ap (option_map cut) c.from_residual-in_err-words.ensures ∙ short_body c.args.line.now c.in_ok-body.body.now c.in_ok-body.ensures.cases.1 c.in_err-words.ensures.cases

pub returns-in_err-n : goal.returns-in_err-n
returns-in_err-n c =
    ap (option_map cut) c.from_residual-in_err-n.ensures
    ∙ no_close c.args.line.now c.in_ok-body.body.now c.in_ok-words.inner.now c.position.result c.in_ok-body.ensures.cases.1 c.in_ok-words.ensures.cases.2 c.in_err-n.was
    (position_from_yields_List (λ b. eqb b 62) _ _ c.position.result c.position.ensures.ran (YieldsList-from_slice c.in_ok-words.inner.now cc) (λ x b q k. search (rules, tests)))

pub returns : goal.returns
returns c =
    command_is c.args.line.now c.in_ok-body.body.now c.in_ok-words.words.now c.in_ok-words.inner.now _ _ c.position.result c.in_ok-n.n
    c.in_ok-body.ensures.cases.0 c.in_ok-body.ensures.cases.1 c.in_ok-words.ensures.cases.1 (sym c.same_word.ensures ∙ c.if-not-same_word.false) c.in_ok-words.ensures.cases.2 c.in_ok-n.was
    (position_from_yields_List (λ b. eqb b 62) _ _ c.position.result c.position.ensures.ran (YieldsList-from_slice c.in_ok-words.inner.now cc) (λ x b q k. search (rules, tests)))
    refl (take_all (length c.in_ok-words.inner.now - (c.in_ok-n.n + 1)) (drop (c.in_ok-n.n + 1) c.in_ok-words.inner.now) (omega (arith, length-drop (c.in_ok-n.n + 1) c.in_ok-words.inner.now)))
