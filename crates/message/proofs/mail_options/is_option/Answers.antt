use Rattle.std.proofs.Common.{◌∙◌, arith, rules, tests}
use Rattle.std.proofs.lemmas.Bool.Decides.{nat_tests}
use Rattle.std.proofs.lemmas.Iterator.{YieldsList-from_slice}
use Rattle.std.proofs.lemmas.Iterator.Search.{all_from_yields_List}
use Rattle.smtp.specs.Bytes.{within}
use Rattle.message.proofs.MailOptions.{all_holds}
use Rattle.message.proofs.mail_options.is_option.Goals as goal

pub returns-then-not-is_empty : goal.returns-then-not-is_empty
returns-then-not-is_empty c =
    let e = all_from_yields_List (λ x. within 33 x 126) _ _ _ c.all.ensures.ran (YieldsList-from_slice c.args.option.now cc) (λ x b q k. search (rules, tests)) ∙ all_holds (λ x. within 33 x 126) c.args.option.now in
    grind (arith, nat_tests)
