use Rattle.std.proofs.Common.{rules}
use Rattle.std.proofs.lemmas.Iterator.Search.{all_from_yields_List}
use Rattle.voucher.specs.Policy.{well_formed_line}
use Rattle.voucher.proofs.Lined.{fields_are}
use Rattle.voucher.proofs.policy.are_well_formed.Goals as goal
use borrow.Author.Tests.{tests}

pub returns : goal.returns
returns c =
    all_from_yields_List well_formed_line c.all.new.self _ _ c.all.ensures.ran (fields_are c.fields_of.result c.args.text.now c.fields_of.ensures) (λ x b q k. search (rules, tests))
