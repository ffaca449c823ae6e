use Rattle.std.proofs.Common.{◌≡◌, ◌∙◌, arith}
use Rattle.std.proofs.lemmas.Bool.Decides.{nat_tests}
use Rattle.smtp.specs.Parts.{first_part}
use Rattle.smtp.proofs.Parted.{take_first}
use Rattle.smtp.proofs.reply_line.listing_of.Goals as goal

pub returns-then-is_keyword : goal.returns-then-is_keyword
returns-then-is_keyword c =
    let e : c.upto-word.result.now ≡ first_part 32 c.args.text.now = simp c.part_len-n.ensures.is at c.upto-word.ensures.is ∙ take_first 32 c.args.text.now in
    grind (arith, nat_tests)

pub returns-else-is_keyword : goal.returns-else-is_keyword
returns-else-is_keyword c =
    let e : c.upto-word.result.now ≡ first_part 32 c.args.text.now = simp c.part_len-n.ensures.is at c.upto-word.ensures.is ∙ take_first 32 c.args.text.now in
    grind (arith, nat_tests)
