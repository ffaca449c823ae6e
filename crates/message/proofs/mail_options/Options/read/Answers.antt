use Rattle.std.proofs.Common.{◌∙◌, ap, eqb, fold, rules, tests}
use Rattle.std.proofs.lemmas.Iterator.Consumers.{fold_from_yields_List}
use Rattle.std.proofs.lemmas.Iterator.Splits.{YieldsList-from_slice_split}
use Rattle.smtp.specs.Parts.{other_parts}
use Rattle.message.specs.MailParts.{seen}
use Rattle.message.proofs.MailOptions.{read_is}
use Rattle.message.proofs.mail_options.Options.read.Goals as goal

pub returns : goal.returns
returns c =
    let tail = c.args.tail.now in
    read_is tail c.next.result c.next.new.self c.is_some_and-formed.result c.fold.result c.next.ensures.steps
    (YieldsList-from_slice_split _ (λ b. eqb b 32) tail c.split-parts.ensures.rest c.split-parts.ensures.done c.split-parts.ensures.closure (λ x b q k. search (rules, tests)))
    (search (rules, tests))
    (λ others. fold_from_yields_List _ seen c.none.result c.fold.result c.fold.ensures.ran others (λ a x b q k. search (rules, tests)) ∙ ap (λ o. fold seen o (other_parts 32 tail)) c.none.ensures)
