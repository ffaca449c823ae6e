-- A policy text taken line by line.
use Rattle.std.proofs.Common.{◌≡◌, ℕ, ◌+◌, ◌-◌, ◌<◌, ◌≤◌, Bool, true, false, cond, ◌&&◌, ◌||◌, leb, List, [], ◌∷◌, ◌++◌, length, get_or, take, drop, eqb, sym, refl, ap, ◌∙◌, le_refl, arith}
use Rattle.std.proofs.lemmas.Bool.Decides.{nat_tests}
use Rattle.std.proofs.lemmas.List.{take_all, drop_all, take_more}
use Rattle.std.proofs.lemmas.List.Folds.{list_all-append}
use Rattle.std.proofs.Math.Bool.{and-true}
use Rattle.smtp.specs.Parts.{first_part, other_parts, parts, behind_first}
use Rattle.smtp.proofs.Parted.{part_len, take_first, drop_behind}
use Rattle.smtp.specs.Bytes.{letter, digit}
use Rattle.voucher.specs.declared.policy_lines.Field.{Field}
use Rattle.voucher.specs.declared.policy_lines.Fields.{Fields}
use Rattle.voucher.specs.PolicyLines.{without_cr, last_line, ended, lines, blank, untrailed, key_byte, is_key}
use Rattle.std.specs.Iterator.{YieldsFirstBy}
use Rattle.std.proofs.lemmas.Iterator.{YieldsList}
use Rattle.std.proofs.lemmas.Iterator.Consumers.{YieldsList-from_first}
use Rattle.std.specs.List.{list_all}

-- a text is its front and its last byte
split_last : (s : List ℕ) → 0 < length s → take (length s - 1) s ++ get_or s (length s - 1) 0 ∷ [] ≡ s
split_last s h =
    let e : length s - 1 + 1 ≡ length s = omega arith in
    sym (take_more s (length s - 1) 0 (omega arith)) ∙ ap (λ (n : ℕ). take n s) e ∙ take_all (length s) s (le_refl _)

-- a line that ends in CR, and one that does not
pub one_cr : (s : List ℕ) → without_cr (s ++ 13 ∷ []) ≡ s
one_cr [] = refl
one_cr (x ∷ []) = refl
one_cr (x ∷ (y ∷ s)) = ap (λ (t : List ℕ). x ∷ t) (one_cr (y ∷ s))

no_cr : (s : List ℕ) (x : ℕ) → eqb x 13 ≡ false → without_cr (s ++ x ∷ []) ≡ s ++ x ∷ []
no_cr [] x h = ap (λ (b : Bool). cond b [] (x ∷ [])) h
no_cr (y ∷ []) x h = ap (λ (b : Bool). y ∷ cond b [] (x ∷ [])) h
no_cr (y ∷ (z ∷ s)) x h = ap (λ (t : List ℕ). y ∷ t) (no_cr (z ∷ s) x h)

pub cr_last : (s : List ℕ) → 0 < length s → get_or s (length s - 1) 0 ≡ 13 → without_cr s ≡ take (length s - 1) s
cr_last s h e =
    let f = take (length s - 1) s in
    sym (ap without_cr (split_last s h)) ∙ ap (λ (x : ℕ). without_cr (f ++ x ∷ [])) e ∙ one_cr f

pub cr_none : (s : List ℕ) → 0 < length s → eqb (get_or s (length s - 1) 0) 13 ≡ false → without_cr s ≡ s
cr_none s h e = let p = split_last s h in sym (ap without_cr p) ∙ no_cr (take (length s - 1) s) (get_or s (length s - 1) 0) e ∙ p

-- where LF ends the first part, the others are the parts of what stands behind it
others_more : (s : List ℕ) → part_len 10 s < length s → other_parts 10 s ≡ parts 10 (behind_first 10 s)
others_more [] h = absurd (omega arith)
others_more (x ∷ s) h = let e = others_more s in grind (arith, nat_tests)

-- where it is the whole text, there are no others
others_none : (s : List ℕ) → length s ≤ part_len 10 s → other_parts 10 s ≡ []
others_none [] h = refl
others_none (x ∷ s) h = let e = others_none s in grind (arith, nat_tests)

-- a line that LF ends
pub lines_more : (s : List ℕ) (n : ℕ) → n ≡ part_len 10 s → n < length s → lines s ≡ without_cr (take n s) ∷ lines (drop (n + 1) s)
unfolding lines
lines_more s n e h =
    let t : take n s ≡ first_part 10 s = ap (λ (k : ℕ). take k s) e ∙ take_first 10 s in
    let d : drop (n + 1) s ≡ behind_first 10 s = ap (λ (k : ℕ). drop (k + 1) s) e ∙ drop_behind 10 s in
    ap (λ (ps : List (List ℕ)). ended (first_part 10 s ∷ ps)) (others_more s (omega arith))
    ∙ ap (λ (p : List ℕ). without_cr p ∷ lines (behind_first 10 s)) (sym t)
    ∙ ap (λ (p : List ℕ). without_cr (take n s) ∷ lines p) (sym d)

pub last_whole : (s : List ℕ) → 0 < length s → last_line s ≡ s ∷ []
last_whole [] h = absurd (omega arith)
last_whole (x ∷ s) h = refl

-- the line that the text's end ends
pub lines_last : (s : List ℕ) (n : ℕ) → n ≡ part_len 10 s → length s ≤ n → 0 < length s → lines s ≡ s ∷ lines (drop (n + 1) s)
unfolding lines
lines_last s n e h k =
    let t : first_part 10 s ≡ s = sym (take_first 10 s) ∙ take_all (part_len 10 s) s (omega arith) in
    ap (λ (ps : List (List ℕ)). ended (first_part 10 s ∷ ps)) (others_none s (omega arith))
    ∙ ap last_line t
    ∙ last_whole s k
    ∙ ap (λ (p : List ℕ). s ∷ lines p) (sym (drop_all (n + 1) s (omega arith)))

-- nothing is left
pub lines_none : (s : List ℕ) → length s ≡ 0 → lines s ≡ []
unfolding lines
lines_none [] h = refl
lines_none (x ∷ s) h = absurd (omega arith)

-- a blank more at the end, and another byte
untrailed_blank : (s : List ℕ) (x : ℕ) → blank x ≡ true → untrailed (s ++ x ∷ []) ≡ untrailed s
untrailed_blank [] x h = ap (λ (b : Bool). cond (b && true) [] (x ∷ [])) h
untrailed_blank (y ∷ s) x h = let e = untrailed_blank s x h in let f = list_all-append blank s (x ∷ []) in grind (arith, and-true)

untrailed_other : (s : List ℕ) (x : ℕ) → blank x ≡ false → untrailed (s ++ x ∷ []) ≡ s ++ x ∷ []
untrailed_other [] x h = ap (λ (b : Bool). cond (b && true) [] (x ∷ [])) h
untrailed_other (y ∷ s) x h = let e = untrailed_other s x h in let f = list_all-append blank s (x ∷ []) in grind (arith, and-true)

-- a text that ends in a blank, and one that does not
pub blank_last : (s : List ℕ) → 0 < length s → blank (get_or s (length s - 1) 0) ≡ true → untrailed s ≡ untrailed (take (length s - 1) s)
blank_last s h b = sym (ap untrailed (split_last s h)) ∙ untrailed_blank (take (length s - 1) s) (get_or s (length s - 1) 0) b

pub blank_none : (s : List ℕ) → 0 < length s → blank (get_or s (length s - 1) 0) ≡ false → untrailed s ≡ s
blank_none s h b = let p = split_last s h in sym (ap untrailed p) ∙ untrailed_other (take (length s - 1) s) (get_or s (length s - 1) 0) b ∙ p

-- a key by its first byte and the others
pub is_key_cut : (s : List ℕ) → 0 < length s →
    is_key s ≡ ((letter (get_or s 0 0) || digit (get_or s 0 0)) && (leb (length s - 1) 31 && list_all key_byte (take (length s - 1) (drop 1 s))))
is_key_cut [] h = absurd (omega arith)
is_key_cut (x ∷ s) h = let e = take_all (length s) s (le_refl _) in grind (arith, nat_tests)

-- the fields of a text are its lines, cut
pub fields_are : (s : Fields) (text : List ℕ) → s.rest.now ≡ text → YieldsList (YieldsFirstBy (λ (f : Field). f.line.now) (λ (t : Fields). lines t.rest.now)) (λ f. f.line.now) s (lines text)
fields_are s text e = YieldsList-from_first (λ f. f.line.now) (λ t. lines t.rest.now) (lines text) (ap lines e)
