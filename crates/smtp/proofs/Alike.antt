-- Words of unlike length.
use Rattle.std.proofs.Common.{◌≡◌, ℕ, suc, false, List, [], ◌∷◌, length, refl, ap, arith}
use Rattle.std.proofs.lemmas.Bool.Decides.{nat_tests}
use Rattle.smtp.specs.Bytes.{same}

-- words of unlike length differ
pub same_len : (a b : List ℕ) → (length a ≡ length b → ⊥) → same a b ≡ false
same_len [] [] h = absurd (h refl)
same_len [] (y ∷ b) h = refl
same_len (x ∷ a) [] h = refl
same_len (x ∷ a) (y ∷ b) h = let e = same_len a b (λ q. h (ap suc q)) in grind (arith, nat_tests)

-- either word may stand first
pub same_swap : (a b : List ℕ) → same a b ≡ same b a
same_swap [] [] = refl
same_swap [] (y ∷ b) = refl
same_swap (x ∷ a) [] = refl
same_swap (x ∷ a) (y ∷ b) = let e = same_swap a b in grind (arith, nat_tests)
