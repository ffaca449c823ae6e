-- What dot-stuffing keeps: the length that is defined for it, its bound, and the content, which unstuffing gives back.
use Rattle.std.specs.Prelude.{◌≡◌, ℕ, ◌≤◌, true, List, [], ◌∷◌, ◌++◌, length, codes}
use Rattle.message.specs.Content.{well_formed}
use Rattle.message.specs.Stuffing.{stuffed, stuffed_len, dot_line, unstuffed}

pub record StuffingHolds : Type 0 where
  -- the stuffed content is as long as its defined length says
  pub length_holds : (s : List ℕ) → length (stuffed s) ≡ stuffed_len s
  -- of well-formed content that is at most 43,693
  pub most : (s : List ℕ) → well_formed s ≡ true → stuffed_len s ≤ 43693
  -- unstuffing gives well-formed content back
  pub back : (s : List ℕ) → well_formed s ≡ true → unstuffed (stuffed s) ≡ s
  -- nothing at all, and lines of a single dot, with one before their text and with one behind it
  pub nothing : stuffed [] ≡ dot_line
  pub some : stuffed (dot_line ++ (codes ".a" ++ 13 ∷ 10 ∷ codes "b." ++ 13 ∷ 10 ∷ [])) ≡ codes ".." ++ 13 ∷ 10 ∷ codes "..a" ++ 13 ∷ 10 ∷ codes "b." ++ 13 ∷ 10 ∷ dot_line
