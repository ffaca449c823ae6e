-- What has the form is lines one after the other, and such lines have it.
use Rattle.std.proofs.Common.{◌≡◌, ℕ, ◌+◌, ◌≤◌, Bool, true, false, cond, eqb, ltb, leb, ◌⊎◌, List, [], ◌∷◌, ◌++◌, length, sym, refl, ap, ◌∙◌, inl, inr, arith}
use Rattle.std.proofs.lemmas.Bool.Decides.{nat_tests}
use Rattle.std.proofs.lemmas.Bool.{true≢false, eqb-true, ltb-true, leb-true, le-leb, and_parts, and_from}
use Rattle.message.specs.Content.{plain, lines_from, well_formed}
use Rattle.message.specs.ContentHold.{AllPlain, AllLines, ended, InLines, ContentHolds}
use Rattle.message.proofs.Headed.{header_take}

-- the rest of a line and the lines behind it
abbrev Rest : ℕ → List ℕ → Type 0
Rest n s = (l : List ℕ) × (ls : List (List ℕ)) × (n + length l ≤ 998) × AllPlain l × AllLines ls × (s ≡ l ++ 13 ∷ 10 ∷ ended ls)

lines_of : {n : ℕ} (s : List ℕ) → ((n ≡ 0) × (s ≡ [])) ⊎ Rest n s → n ≡ 0 → InLines s
lines_of s (inl h) e = ([], tt, h.1)
lines_of s (inr (l, ls, b, p, a, q)) e = (l ∷ ls, (omega arith, p, a), q)

no : {P : Type 0} → false ≡ true → P
no h = absurd (true≢false (sym h))

abbrev Split : ℕ → List ℕ → Type 0
Split n s = ((n ≡ 0) × (s ≡ [])) ⊎ Rest n s

-- a byte before the line's end goes in front
longer : (n x y : ℕ) (s : List ℕ) → plain x ≡ true → Split (n + 1) (y ∷ s) → Rest n (x ∷ (y ∷ s))
longer n x y s e (inl h) = absurd (let z = h.0 in omega arith)
longer n x y s e (inr (l, ls, b, p, a, q)) = (x ∷ l, ls, omega arith, (e, p), a, ap (λ (t : List ℕ). x ∷ t) q)

-- two bytes and more, by what the tests say
pairs : (n x y : ℕ) (s : List ℕ) → n ≤ 998 → (lines_from 0 s ≡ true → Split 0 s) → (n + 1 ≤ 998 → lines_from (n + 1) (y ∷ s) ≡ true → Split (n + 1) (y ∷ s))
    → (p q r t : Bool) → eqb x 13 ≡ p → eqb y 10 ≡ q → ltb n 998 ≡ r → plain x ≡ t
    → cond p (cond q (lines_from 0 s) false) (cond r (cond t (lines_from (n + 1) (y ∷ s)) false) false) ≡ true → Rest n (x ∷ (y ∷ s))
pairs n x y s b i j true true r t e f g k h =
    let (ls, a, w) = lines_of {n = 0} s (i h) refl in
    let u = eqb-true x 13 e in
    let v = eqb-true y 10 f in
    ([], ls, omega arith, tt, a, (cc))
pairs n x y s b i j true false r t e f g k h = no h
pairs n x y s b i j false q true true e f g k h = longer n x y s k (j (omega (arith, ltb-true n 998 g)) h)
pairs n x y s b i j false q true false e f g k h = no h
pairs n x y s b i j false q false t e f g k h = no h

split : (n : ℕ) (s : List ℕ) → n ≤ 998 → lines_from n s ≡ true → Split n s
split n [] b h = inl (eqb-true n 0 h, refl)
split n (x ∷ []) b h = no h
split n (x ∷ (y ∷ s)) b h =
    inr (pairs n x y s b (split 0 s (omega arith)) (split (n + 1) (y ∷ s)) (eqb x 13) (eqb y 10) (ltb n 998) (plain x) refl refl refl refl h)

joins : (n : ℕ) (l : List ℕ) (ls : List (List ℕ)) → n + length l ≤ 998 → AllPlain l → lines_from 0 (ended ls) ≡ true → lines_from n (l ++ 13 ∷ 10 ∷ ended ls) ≡ true
joins n [] ls b p h = h
joins n (x ∷ []) ls b p h = let k = p.0 in grind (arith, nat_tests)
joins n (x ∷ (y ∷ l)) ls b p h =
    let r = joins (n + 1) (y ∷ l) ls (omega arith) p.1 h in
    let k = p.0 in
    grind (arith, nat_tests)

whole : (ls : List (List ℕ)) → AllLines ls → lines_from 0 (ended ls) ≡ true
whole [] a = refl
whole (l ∷ ls) (b, p, a) = joins 0 l ls (omega arith) p (whole ls a)

pub in_lines : (s : List ℕ) → well_formed s ≡ true → (length s ≤ 32768) × InLines s
in_lines s h =
    let (a, b) = and_parts (leb (length s) 32768) (lines_from 0 s) h in
    (leb-true (length s) 32768 a, lines_of {n = 0} s (split 0 s (omega arith) b) refl)

formed : (s : List ℕ) → length s ≤ 32768 → InLines s → well_formed s ≡ true
formed s h i = and_from _ _ (le-leb (length s) 32768 h) (ap (lines_from 0) i.2 ∙ whole i.0 i.1)

pub content_holds : ContentHolds
content_holds = record { in_lines = in_lines; formed = formed; front = header_take; up_to_empty = refl }
