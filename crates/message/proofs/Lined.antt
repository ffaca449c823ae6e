-- The lines of a text, the first apart from those behind it.
use Rattle.std.proofs.Common.{◌≡◌, ℕ, suc, ◌+◌, ◌<◌, List, [], ◌∷◌, length, take, drop, ◌++◌, sym, refl, ap, ◌∙◌, add-one, arith}
use Rattle.std.proofs.lemmas.Bool.Decides.{nat_tests}
use Rattle.std.proofs.lemmas.List.{length-append, take-append-drop}
use Rattle.smtp.specs.Parts.{first_part}
use Rattle.message.specs.Lines.{longer, lines_of, joined, first_of, first_line}

abbrev pub rest_of : List (List ℕ) → List (List ℕ)
rest_of [] = []
rest_of (l ∷ ls) = ls

first_longer : (x : ℕ) (ls : List (List ℕ)) → first_of (longer x ls) ≡ x ∷ first_of ls
first_longer x [] = refl
first_longer x (l ∷ ls) = refl

pub rest_longer : (x : ℕ) (ls : List (List ℕ)) → rest_of (longer x ls) ≡ rest_of ls
rest_longer x [] = refl
rest_longer x (l ∷ ls) = refl

joined_longer : (x : ℕ) (ls : List (List ℕ)) → joined (longer x ls) ≡ x ∷ joined ls
joined_longer x [] = refl
joined_longer x (l ∷ ls) = refl

-- the first line is the front of the text
first_take : (s : List ℕ) → take (length (first_line s)) s ≡ first_line s
first_take [] = refl
first_take (x ∷ s) = let e = first_take s in let f = first_longer x (lines_of s) in grind (arith, nat_tests)

-- the other lines are those of what stands behind it
rest_drop : (s : List ℕ) → rest_of (lines_of s) ≡ lines_of (drop (length (first_line s)) s)
rest_drop [] = refl
rest_drop (x ∷ s) = let e = rest_drop s in let f = first_longer x (lines_of s) in let g = rest_longer x (lines_of s) in grind (arith, nat_tests)

pub joined_lines : (s : List ℕ) → joined (lines_of s) ≡ s
joined_lines [] = refl
joined_lines (x ∷ s) = let e = joined_lines s in let f = joined_longer x (lines_of s) in grind (arith, nat_tests)

-- it goes up to the first LF, and that with it
first_suc : (s : List ℕ) → take (suc (length (first_part 10 s))) s ≡ first_line s
first_suc [] = refl
first_suc (x ∷ s) = let e = first_suc s in let f = first_longer x (lines_of s) in grind (arith, nat_tests)

first_upto : (s : List ℕ) → take (length (first_part 10 s) + 1) s ≡ first_line s
first_upto s = rw add-one (first_suc s)

longer_some : (x : ℕ) (ls : List (List ℕ)) → longer x ls ≡ first_of (longer x ls) ∷ rest_of (longer x ls)
longer_some x [] = refl
longer_some x (l ∷ ls) = refl

lines_parts : (x : ℕ) (s : List ℕ) → lines_of (x ∷ s) ≡ first_line (x ∷ s) ∷ rest_of (lines_of (x ∷ s))
lines_parts x s = let e = longer_some x (lines_of s) in grind (arith, nat_tests)

-- a text that is not empty is its first line and those behind it
lines_some : (s : List ℕ) → 0 < length s → lines_of s ≡ first_line s ∷ lines_of (drop (length (first_line s)) s)
lines_some [] h = absurd (omega arith)
lines_some (x ∷ s) h = lines_parts x s ∙ ap (λ (ls : List (List ℕ)). first_line (x ∷ s) ∷ ls) (rest_drop (x ∷ s))

first_some : (s : List ℕ) → 0 < length s → 0 < length (first_line s)
first_some [] h = absurd (omega arith)
first_some (x ∷ s) h = let f = first_longer x (lines_of s) in grind (arith, nat_tests)

-- the first line cut off at the first LF
pub lines_cut : (s line rest : List ℕ) → 0 < length s → line ≡ take (length (first_part 10 s) + 1) s → rest ≡ drop (length line) s → lines_of s ≡ line ∷ lines_of rest
lines_cut s line rest h e f =
    let l = e ∙ first_upto s in
    lines_some s h ∙ (λ i. sym l i ∷ lines_of (drop (length (sym l i)) s)) ∙ ap (λ t. line ∷ lines_of t) (sym f)

-- the same text as its first line and the lines behind it
pub line_front : (t l : List ℕ) (ls : List (List ℕ)) → lines_of t ≡ l ∷ ls → (u : List ℕ) × (t ≡ l ++ u) × (lines_of u ≡ ls)
line_front t l ls e =
    let f : l ≡ first_line t = sym (ap first_of e) in
    let g : take (length l) t ≡ l = ap (λ l. take (length l) t) f ∙ first_take t ∙ sym f in
    (drop (length l) t, sym (take-append-drop (length l) t) ∙ ap (λ m. m ++ drop (length l) t) g, ap (λ l. lines_of (drop (length l) t)) f ∙ sym (rest_drop t) ∙ ap rest_of e)

line_some : (s l : List ℕ) (ls : List (List ℕ)) → lines_of s ≡ l ∷ ls → 0 < length l
line_some [] l ls e = absurd (let z : ◌≡◌ {A = ℕ} 0 1 = cc in omega arith)
line_some (x ∷ s) l ls e = let h = first_some (x ∷ s) (omega arith) in let k = ap (λ ms. length (first_of ms)) e in omega arith

pub front_some : (s l t : List ℕ) → lines_of s ≡ l ∷ lines_of t → (0 < length l) × (s ≡ l ++ t)
front_some s l t e =
    let (u, f, g) = line_front s l (lines_of t) e in
    (line_some s l (lines_of t) e, f ∙ ap (λ u. l ++ u) (sym (joined_lines u) ∙ ap joined g ∙ joined_lines t))

pub first_len : (s l t : List ℕ) → lines_of s ≡ l ∷ lines_of t → (0 < length l) × (length s ≡ length l + length t)
first_len s l t e = let (a, f) = front_some s l t e in (a, ap length f ∙ length-append l t)
