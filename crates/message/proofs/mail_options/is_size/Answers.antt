use Rattle.std.proofs.Common.{◌∙◌, arith, rules, tests}
use Rattle.std.proofs.lemmas.Bool.Decides.{nat_tests}
use Rattle.std.proofs.lemmas.Iterator.{YieldsList-from_slice}
use Rattle.std.proofs.lemmas.Iterator.Search.{all_from_yields_List}
use Rattle.smtp.specs.Bytes.{digit}
use Rattle.message.proofs.MailOptions.{all_holds}
use Rattle.message.proofs.mail_options.is_size.Goals as goal

pub returns-then-value-le-SIZE_DIGITS : goal.returns-then-value-le-SIZE_DIGITS
returns-then-value-le-SIZE_DIGITS c =
    let e = all_from_yields_List digit _ _ _ c.all.ensures.ran (YieldsList-from_slice c.in-Some.value.now cc) (λ x b q k. search (rules, tests)) ∙ all_holds digit c.in-Some.value.now in
    grind (arith, nat_tests)
