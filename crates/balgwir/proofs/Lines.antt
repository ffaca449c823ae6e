-- The first CRLF of a reply, found among its pairs of bytes that stand side by side.
use Rattle.std.proofs.Common.{◌≡◌, ℕ, suc, ◌+◌, ◌<◌, ◌≤◌, Bool, true, false, cond, not, ◌&&◌, nat_eq, ltb, List, [], ◌∷◌, length, take, drop, Option, Some, None, unwrap_or, codes, refl, ap, sym, ◌∙◌, subst, arith}
use Rattle.std.specs.List.{position_or_len, starts_with}
use Rattle.std.specs.Cmp.Lexicographic.{pointwise}
use Rattle.std.specs.Slice.Iter.{windows_rest, windows_size, windows_steps}
use Rattle.std.specs.declared.slice.Windows.{Windows}
use Rattle.std.proofs.lemmas.Bool.Decides.{nat_tests}
use Rattle.std.proofs.lemmas.Iterator.{YieldsList}
use Rattle.std.proofs.lemmas.Iterator.Splits.{YieldsList-from_shown_while}
use Rattle.balgwir.specs.Shown.{line_len}

-- each byte with the next
abbrev pub pairs : List ℕ → List (List ℕ)
pairs [] = []
pairs (x ∷ []) = []
pairs (x ∷ y ∷ s) = (x ∷ y ∷ []) ∷ pairs (y ∷ s)

abbrev pub is_crlf : List ℕ → Bool
is_crlf w = pointwise nat_eq w (codes "\r\n")

pairs_none : (s : List ℕ) → length s < 2 → length (pairs s) ≡ 0
pairs_none [] h = refl
pairs_none (x ∷ []) h = refl
pairs_none (x ∷ y ∷ s) h = absurd (omega arith)

pairs_more : (s w : List ℕ) → 2 ≤ length s → w ≡ take 2 s → pairs s ≡ w ∷ pairs (drop 1 s)
pairs_more [] w h e = absurd (omega arith)
pairs_more (x ∷ []) w h e = absurd (omega arith)
pairs_more (x ∷ y ∷ s) w h e = ap (λ (v : List ℕ). v ∷ pairs (y ∷ s)) (sym e)

pub pairs_yielded : (s : Windows ℕ) → windows_size s ≡ 2 → YieldsList windows_steps (λ w. w.now) s (pairs (windows_rest s))
pairs_yielded s e =
    YieldsList-from_shown_while windows_steps (λ w. w.now) (λ s. pairs (windows_rest s)) (λ s. windows_size s ≡ 2)
    (λ s t p h. pairs_none (windows_rest s) (omega (arith, h.1.0)))
    (λ s x t p h. (h.0 ∙ p, pairs_more (windows_rest s) x.now (omega (arith, h.1.0)) (subst (λ (n : ℕ). x.now ≡ take n (windows_rest s)) p h.1.1) ∙ ap (λ (r : List ℕ). x.now ∷ pairs r) (sym h.1.2)))
    s e

same_either_way : (a b : ℕ) → nat_eq a b ≡ nat_eq b a
same_either_way a b = grind (arith, nat_tests)

same_test : (x y : ℕ) (s : List ℕ) → is_crlf (x ∷ y ∷ []) ≡ starts_with nat_eq (x ∷ y ∷ s) (codes "\r\n")
same_test x y s = ap (λ b. b && (nat_eq y 10 && true)) (same_either_way x 13) ∙ ap (λ b. nat_eq 13 x && (b && true)) (same_either_way y 10)

abbrev first : List (List ℕ) → ℕ → ℕ
first ws n = cond (ltb (position_or_len is_crlf ws) (length ws)) (position_or_len is_crlf ws) n

at_front : (k n : ℕ) → cond (ltb 0 (suc k)) 0 (suc n) ≡ 0
at_front k n = grind (arith, nat_tests)

behind_one : (p k n : ℕ) → cond (ltb (1 + p) (suc k)) (1 + p) (suc n) ≡ suc (cond (ltb p k) p n)
behind_one p k n = grind (arith, nat_tests)

first_more : (b : Bool) (p k n : ℕ) → cond (ltb (cond (not b) (1 + p) 0) (suc k)) (cond (not b) (1 + p) 0) (suc n) ≡ cond b 0 (suc (cond (ltb p k) p n))
first_more true p k n = at_front k n
first_more false p k n = behind_one p k n

no_crlf : (b : Bool) (n : ℕ) → n ≡ cond (b && false) 0 n
no_crlf true n = refl
no_crlf false n = refl

first_is : (s : List ℕ) → first (pairs s) (length s) ≡ line_len s
first_is [] = refl
first_is (x ∷ []) = no_crlf (nat_eq 13 x) 1
first_is (x ∷ y ∷ s) =
    first_more (is_crlf (x ∷ y ∷ [])) (position_or_len is_crlf (pairs (y ∷ s))) (length (pairs (y ∷ s))) (length (y ∷ s))
    ∙ (ap (λ n. cond (is_crlf (x ∷ y ∷ [])) 0 (suc n)) (first_is (y ∷ s)) ∙ ap (λ b. cond b 0 (suc (line_len (y ∷ s)))) (same_test x y s))

or_else : (b : Bool) (m n : ℕ) → unwrap_or (cond b (Some m) None) n ≡ cond b m n
or_else true m n = refl
or_else false m n = refl

-- where the first pair of CR LF stands, or how many bytes there are
pub line_len_by_pairs : (s : List ℕ) (r : Option ℕ) (n : ℕ)
    → r ≡ cond (ltb (position_or_len is_crlf (pairs s)) (length (pairs s))) (Some (position_or_len is_crlf (pairs s))) None → n ≡ unwrap_or r (length s) → n ≡ line_len s
line_len_by_pairs s r n e is = is ∙ (ap (λ (o : Option ℕ). unwrap_or o (length s)) e ∙ (or_else (ltb (position_or_len is_crlf (pairs s)) (length (pairs s))) _ (length s) ∙ first_is s))
