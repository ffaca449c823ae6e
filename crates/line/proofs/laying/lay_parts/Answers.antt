use Rattle.std.proofs.Common.{◌≡◌, ◌+◌, length, arith}
use Rattle.line.proofs.HouseLaying.{laid_line}
use Rattle.line.proofs.laying.lay_parts.Goals as goal

pub returns-clause-laid : goal.returns-clause-laid
returns-clause-laid c =
    let p : c.lay-behind-2.result ≡ c.args.at + length c.args.front.now + length c.args.text.now = omega arith in
    laid_line c.args.at c.args.front.now c.args.text.now c.args.ending.now c.args.out.now c.lay-behind.new.out c.lay-behind-2.new.out c.lay.new.out
    c.requires c.lay-behind.ensures.laid (simp c.lay-behind.ensures.end at c.lay-behind-2.ensures.laid) (simp p at c.lay.ensures.laid)
