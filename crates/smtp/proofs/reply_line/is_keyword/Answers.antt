use Rattle.std.proofs.Common.{◌∙◌, le_refl, ap, rules, tests, arith}
use Rattle.std.proofs.lemmas.Bool.Decides.{nat_tests}
use Rattle.std.proofs.lemmas.Iterator.{YieldsList-from_slice}
use Rattle.std.proofs.lemmas.Iterator.Search.{all_from_yields_List}
use Rattle.std.proofs.lemmas.Slice.{between_to_end}
use Rattle.smtp.specs.Bytes.{all}
use Rattle.smtp.specs.Names.{label_byte}
use Rattle.smtp.proofs.Wire.{keyword_shape}
use Rattle.smtp.proofs.reply_line.is_keyword.Goals as goal

pub returns-then-is_ascii_alphanumeric : goal.returns-then-is_ascii_alphanumeric
returns-then-is_ascii_alphanumeric c =
    let w = c.args.word.now in
    let e = all_from_yields_List label_byte _ _ c.all.result c.all.ensures.ran (YieldsList-from_slice _ c.iter.ensures.rest) (λ x b q k. search (rules, tests)) in
    let f = e ∙ ap (all label_byte) (between_to_end w 1 _ (le_refl _)) in
    let k = keyword_shape w (omega arith) in
    grind (arith, nat_tests)
