use Rattle.std.proofs.Common.{◌+◌, arith}
use Rattle.std.proofs.lemmas.Bool.Decides.{nat_tests}
use Rattle.std.proofs.lemmas.List.{get_or_past}
use Rattle.message.proofs.Formed.{well_at}
use Rattle.message.proofs.content.is_in_lines.Goals as goal
use Rattle.message.proofs.content.is_in_lines.Goals.{then-i-content-via-then-i-content, then-i-content-via-else-i-content+then-content-i-ne10, then-n-ge998-via-then-n-ge998, then-n-ge998-via-else-n-ge998+then-not-is_plain}

pub returns-then-i-content : goal.returns-then-i-content
returns-then-i-content c =
    let e = well_at c.loop-i.n c.loop-i.i c.args.content.now c.loop-i-test.true in
    elim c.then-i-content.branch [
      | then-i-content-via-then-i-content w ↦ let p = get_or_past c.args.content.now (c.loop-i.i + 1) 0 w.if-i-content.true in grind (arith, nat_tests)
      | then-i-content-via-else-i-content+then-content-i-ne10 w ↦ grind (arith, nat_tests)
    ]

pub loop-i-preserved-then-content-i-eq13 : goal.loop-i-preserved-then-content-i-eq13
loop-i-preserved-then-content-i-eq13 c =
    let e = well_at c.loop-i.n c.loop-i.i c.args.content.now c.loop-i-test.true in
    grind (arith, nat_tests)

pub returns-then-n-ge998 : goal.returns-then-n-ge998
returns-then-n-ge998 c =
    let e = well_at c.loop-i.n c.loop-i.i c.args.content.now c.loop-i-test.true in
    elim c.then-n-ge998.branch [ then-n-ge998-via-then-n-ge998 w ↦ grind (arith, nat_tests) | then-n-ge998-via-else-n-ge998+then-not-is_plain w ↦ grind (arith, nat_tests) ]

pub loop-i-preserved : goal.loop-i-preserved
loop-i-preserved c =
    let e = well_at c.loop-i.n c.loop-i.i c.args.content.now c.loop-i-test.true in
    grind (arith, nat_tests)
