-- The laws of parts, words, host names and patterns.
use Rattle.std.proofs.Common.{◌≡◌, ℕ, Bool, true, ◌&&◌, eqb, ◌==◌, List, [], ◌∷◌, ◌++◌, map, sym, refl, ap, ◌∙◌, inl, inr, ⊎_elim, arith}
use Rattle.std.proofs.lemmas.Bool.Decides.{nat_tests, Decides-at}
use Rattle.std.proofs.lemmas.Slice.Eq.{bytes_eq-Decides}
use Rattle.std.proofs.lemmas.Bool.{false≢true, and_parts, and_from, or_cases, or_left, or_right, leb-true, le-leb}
use Rattle.std.specs.Str.{bytes_eq}
use Rattle.smtp.specs.Bytes.{lowered, same, all}
use Rattle.smtp.specs.Parts.{first_part, other_parts, parts, from_first}
use Rattle.smtp.specs.Names.{label_byte, wild}
use Rattle.smtp.specs.NamesHold.{joined, lacks, label, PartsJoin, PartsOnly, SameIsLowered, HostNameIsLabels, ByStar, CoversExactly}

parts_joined : (sep : ℕ) (s : List ℕ) → joined sep (parts sep s) ≡ s
parts_joined sep [] = refl
parts_joined sep (x ∷ s) = let e = parts_joined sep s in grind (arith, nat_tests)

parts_lack : (sep : ℕ) (s : List ℕ) → all (lacks sep) (parts sep s) ≡ true
parts_lack sep [] = refl
parts_lack sep (x ∷ s) = let e = parts_lack sep s in grind (arith, nat_tests)

pub parts_join : PartsJoin
parts_join sep s = (parts_joined sep s, parts_lack sep s)

pub parts_only : PartsOnly
parts_only sep [] [] h = refl
parts_only sep [] (q ∷ ps) h = let e = parts_only sep q ps (grind (arith, nat_tests)) in grind (arith, nat_tests)
parts_only sep (x ∷ p) ps h = let e = parts_only sep p ps (grind (arith, nat_tests)) in grind (arith, nat_tests)

same_is_bytes_eq : (a b : List ℕ) → same a b ≡ bytes_eq (map lowered a) (map lowered b)
same_is_bytes_eq [] [] = refl
same_is_bytes_eq [] (y ∷ b) = refl
same_is_bytes_eq (x ∷ a) [] = refl
same_is_bytes_eq (x ∷ a) (y ∷ b) = ap (λ (t : Bool). lowered x == lowered y && t) (same_is_bytes_eq a b)

pub same_is_lowered : SameIsLowered
same_is_lowered a b = Decides-at (same a b) _ (same_is_bytes_eq a b) (bytes_eq-Decides (map lowered a) (map lowered b))

-- a label has no dot
label_lacks : (p : List ℕ) → all label_byte p ≡ true → lacks 46 p ≡ true
label_lacks [] h = refl
label_lacks (x ∷ p) h = let e = label_lacks p (grind (arith, nat_tests)) in grind (arith, nat_tests)

labels_lack : (ps : List (List ℕ)) → all label ps ≡ true → all (lacks 46) ps ≡ true
labels_lack [] h = refl
labels_lack (p ∷ ps) h = let d = label_lacks p (grind (arith, nat_tests)) in let e = labels_lack ps (grind (arith, nat_tests)) in grind (arith, nat_tests)

pub host_name_is_labels : HostNameIsLabels
host_name_is_labels s = (
  λ e. let p = and_parts _ _ e in (leb-true _ _ p.0, first_part 46 s, other_parts 46 s, p.1, sym (parts_joined 46 s)),
  λ (n, l, ls, a, e). and_from _ _ (le-leb _ _ n) (ap (all label) (ap (parts 46) e ∙ parts_only 46 l ls (labels_lack (l ∷ ls) a)) ∙ a),
)

from_behind : (sep : ℕ) (l r : List ℕ) → lacks sep l ≡ true → from_first sep (l ++ (sep ∷ r)) ≡ sep ∷ r
from_behind sep [] r h = grind (arith, nat_tests)
from_behind sep (x ∷ l) r h = let e = from_behind sep l r (grind (arith, nat_tests)) in grind (arith, nat_tests)

first_from : (sep : ℕ) (s : List ℕ) → first_part sep s ++ from_first sep s ≡ s
first_from sep [] = refl
first_from sep (x ∷ s) = let e = first_from sep s in grind (arith, nat_tests)

star_parts : (x y z : ℕ) (q r : List ℕ) → (eqb x 42 && (eqb y 46 && same (y ∷ q) (z ∷ r))) ≡ true → (x ≡ 42) × (y ≡ 46) × (z ≡ 46) × (same q r ≡ true)
star_parts x y z q r w = (grind (arith, nat_tests), grind (arith, nat_tests), grind (arith, nat_tests), grind (arith, nat_tests))

star_lowered : (x y : ℕ) (q r : List ℕ) → x ≡ 42 → y ≡ 46 → map lowered q ≡ map lowered r → map lowered (x ∷ (y ∷ q)) ≡ 42 ∷ (46 ∷ map lowered r)
star_lowered x y q r a b m = rw (a, b, m)

to_star : (p h f : List ℕ) → from_first 46 h ≡ f → label (first_part 46 h) ≡ true → wild p h ≡ true → ByStar p h
to_star [] h f e k w = absurd (false≢true w)
to_star (x ∷ []) h f e k w = absurd (false≢true w)
to_star (x ∷ (y ∷ q)) h [] e k w = absurd (false≢true (and_parts (eqb y 46) _ (and_parts (eqb x 42) _ (rw e at w)).1).1)
to_star (x ∷ (y ∷ q)) h (z ∷ r) e k w =
    let t = star_parts x y z q r (rw e at w) in (
      first_part 46 h,
      r,
      k,
      sym (first_from 46 h) ∙ ap (λ (f : List ℕ). first_part 46 h ++ f) (e ∙ ap (λ (b : ℕ). b ∷ r) t.2),
      star_lowered x y q r t.0 t.1 ((same_is_lowered q r).0 t.3),
    )

from_star : (p h : List ℕ) → ByStar p h → wild p h ≡ true
from_star [] h (l, r, k, e, m) = cc
from_star (x ∷ []) h (l, r, k, e, m) = cc
from_star (x ∷ (y ∷ q)) h (l, r, k, e, m) =
    let a : lowered x ≡ 42 = cc in
    let b : lowered y ≡ 46 = cc in
    let s = (same_is_lowered q r).1 (cc) in
    let t = ap (same (y ∷ q)) (ap (from_first 46) e ∙ from_behind 46 l r (label_lacks l (grind (arith, nat_tests)))) in
    grind (arith, nat_tests)

pub covers_exactly : CoversExactly
covers_exactly p h = (
  λ e.
      let a = and_parts _ _ e in (
        a.0,
        ⊎_elim (λ s. inl ((same_is_lowered p h).0 s)) (λ w. inr (to_star p h (from_first 46 h) refl (grind (arith, nat_tests)) w)) (or_cases _ _ a.1),
      ),
  λ (n, w). and_from _ _ n (⊎_elim (λ s. or_left _ _ ((same_is_lowered p h).1 s)) (λ t. or_right _ _ (from_star p h t)) w),
)
