use Rattle.std.proofs.Common.{rules, arith}
use Rattle.voucher.proofs.Ages.{digits_are_text, age_parsed}
use Rattle.voucher.proofs.policy.is_age.Goals as goal
use borrow.Author.Tests.{tests}

pub returns-in-Ok : goal.returns-in-Ok
returns-in-Ok c = age_parsed c.args.value.now c.parse.result _ (search rules) (omega arith) (cc) (search (rules, tests))

pub returns-in-Err : goal.returns-in-Err
returns-in-Err c = absurd (c.in-Err.ensures.cases.0 (digits_are_text c.args.value.now (cc)))
