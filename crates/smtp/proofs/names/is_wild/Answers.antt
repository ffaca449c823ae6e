use Rattle.std.proofs.Common.{rules}
use Rattle.smtp.proofs.Named.{wild_star}
use Rattle.smtp.proofs.Parted.{drop_first}
use Rattle.smtp.proofs.names.is_wild.Goals as goal

pub returns-in-42 : goal.returns-in-42
returns-in-42 c =
    let e = wild_star c.args.pattern.now c.args.name.now (search rules) (search rules) (search rules) in
    let d = drop_first 46 c.args.name.now in
    cc
