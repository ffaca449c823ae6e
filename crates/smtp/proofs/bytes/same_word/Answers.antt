-- What the call answers is said of its operands, whatever they are, and a search sets these beside the two words: so a body with the words in the
-- other order, or with the whole of a word as `upto` gives it, is proved too, and one with other words is refused for what it answers.
use Rattle.std.proofs.Common.{◌≡◌, ℕ, Bool, List, map, rules}
use Rattle.std.specs.Prelude.{◌↔◌, IsTrue}
use Rattle.std.proofs.lemmas.Bool.Decides.{same_from_decides}
use Rattle.std.proofs.Math.Seq.{take-length}
use Rattle.smtp.specs.Bytes.{lowered, same}
use Rattle.smtp.proofs.Alike.{same_swap}
use Rattle.smtp.proofs.Held.{same_is_lowered}
use Rattle.smtp.proofs.bytes.same_word.Goals as goal

same_of : {r : Bool} (s t : List ℕ) → (IsTrue r ↔ (map lowered s ≡ map lowered t)) → r ≡ same s t
same_of s t h = same_from_decides _ _ h (same_is_lowered s t)

pub returns : goal.returns
returns c =
    let a = c.args.a.now in
    let b = c.args.b.now in
    let e = same_of _ _ c.eq_ignore_ascii_case.ensures.test in
    let f = same_swap a b in let g = take-length a in let h = take-length b in search (rules)
