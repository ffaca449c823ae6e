-- A text's parts, place by place.
use Rattle.std.proofs.Common.{◌≡◌, ℕ, suc, ◌+◌, ◌≤◌, Bool, true, false, cond, List, [], ◌∷◌, length, take, drop, refl, ◌∙◌, add-one, arith, ◌==◌, unwrap_or, not, sym}
use Rattle.std.specs.List.{position, position_or_len, slice_split}
use Rattle.std.proofs.lemmas.List.Recursion.{is_position_or_len}
use Rattle.std.proofs.lemmas.List.Sums.{prefix_len-le-length}
use Rattle.std.proofs.lemmas.Bool.Decides.{nat_tests}
use Rattle.smtp.specs.Parts.{first_part, parts, from_first, behind_first}

-- how long the first part of a text is
abbrev pub part_len : ℕ → List ℕ → ℕ
part_len sep s = length (first_part sep s)

-- the first place that passes, or the length
pub place_or_len : (test : ℕ → Bool) (s : List ℕ) → unwrap_or (position test s) (length s) ≡ position_or_len test s
place_or_len test s = let e = prefix_len-le-length (λ x. not (test x)) s in grind (arith, nat_tests)

length_cond : (b : Bool) (x : ℕ) (p : List ℕ) → length (cond b [] (x ∷ p)) ≡ cond b 0 (1 + length p)
length_cond true x p = refl
length_cond false x p = omega arith

-- the first part ends at the first separator
pub first_place : (sep : ℕ) (s : List ℕ) → unwrap_or (position (λ x. x == sep) s) (length s) ≡ part_len sep s
first_place sep s =
    place_or_len (λ x. x == sep) s ∙ sym (is_position_or_len (part_len sep) (λ x. x == sep) refl (λ x t. length_cond (x == sep) x (first_part sep t)) s)

pub part_within : (sep : ℕ) (s : List ℕ) → part_len sep s ≤ length s
part_within sep [] = omega arith
part_within sep (x ∷ s) = let e = part_within sep s in grind (arith, nat_tests)

-- a text cut at the first separator
pub take_first : (sep : ℕ) (s : List ℕ) → take (part_len sep s) s ≡ first_part sep s
take_first sep [] = refl
take_first sep (x ∷ s) = let e = take_first sep s in grind (arith, nat_tests)

pub drop_first : (sep : ℕ) (s : List ℕ) → drop (part_len sep s) s ≡ from_first sep s
drop_first sep [] = refl
drop_first sep (x ∷ s) = let e = drop_first sep s in grind (arith, nat_tests)

behind : (sep : ℕ) (s : List ℕ) → drop (suc (part_len sep s)) s ≡ behind_first sep s
behind sep [] = refl
behind sep (x ∷ s) = let e = behind sep s in grind (arith, nat_tests)

pub drop_behind : (sep : ℕ) (s : List ℕ) → drop (part_len sep s + 1) s ≡ behind_first sep s
drop_behind sep s = rw add-one (behind sep s)

-- the parts are those that `split` gives
pub parts_split : (sep : ℕ) (s : List ℕ) → parts sep s ≡ slice_split (λ x. x == sep) s
parts_split sep [] = refl
parts_split sep (x ∷ s) = let e = parts_split sep s in grind (arith, nat_tests)
