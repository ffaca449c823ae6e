use Rattle.std.proofs.Common.{rules}
use Rattle.std.proofs.lemmas.Iterator.Search.{any_from_yields_List}
use Rattle.voucher.specs.Policy.{mx_covers}
use Rattle.voucher.proofs.Lined.{fields_are}
use Rattle.voucher.proofs.policy.some_mx_covers.Goals as goal
use borrow.Author.Tests.{tests}

pub returns : goal.returns
returns c =
    any_from_yields_List (mx_covers c.args.name.now) c.any.new.self _ _ c.any.ensures.ran (fields_are c.fields_of.result c.args.text.now c.fields_of.ensures) (λ x b q k. search (rules, tests))
