-- A reply read line by line: what is left decides whether it is well formed.
use Rattle.std.proofs.Common.{◌≡◌, ℕ, zero, suc, ◌+◌, ◌<◌, ◌≤◌, Bool, false, cond, not, ◌&&◌, eqb, List, [], ◌∷◌, length, drop, Some, None, sym, refl, ap, ◌∙◌, le_refl, arith}
use Rattle.std.proofs.lemmas.Bool.Decides.{nat_tests}
use Rattle.std.proofs.lemmas.List.{length-drop}
use Rattle.std.proofs.lemmas.Bool.{eq-eqb, ne_eqb}
use Rattle.smtp.specs.Bytes.{all}
use Rattle.smtp.specs.Replies.{Line, line_at, size, is_last, front_by, closes, total, code_in, reply_code, in_form, well_formed}
use Rattle.smtp.proofs.Wire.{turn_front, size_of, front_none}

-- lines make what is left of a reply, so many bytes; behind the last line nothing is left
abbrev pub stands : Bool → ℕ → List Line → ℕ → Bool
stands last code ls n = cond last (eqb n 0) (in_form code ls n)

-- what is left decides
abbrev pub Decides : List ℕ → Bool → ℕ → List ℕ → Type 0
Decides s last code rest = (n : ℕ) × (length rest ≤ n) × (stands last code (front_by n rest) (length rest) ≡ well_formed s)

-- where a line follows, something is left
more_front : (n : ℕ) (s : List ℕ) (l : Line) (ls : List Line) → front_by n s ≡ l ∷ ls → 0 < length s
more_front zero s l ls e = absurd (let z : ◌≡◌ {A = ℕ} 0 1 = cc in omega arith)
more_front (suc n) [] l ls e = absurd (let z : ◌≡◌ {A = ℕ} 0 1 = cc in omega arith)
more_front (suc n) (x ∷ s) l ls e = omega arith

-- a line with another behind it, by what the tests say: a bytes, with b behind it where n are left
with_more : (last same close one : Bool) (a b n : ℕ) → 0 < n →
    ((not last && close) && ((same && one) && eqb (a + b) (a + n))) ≡ cond same (cond last (eqb n 0) (close && (one && eqb b n))) false
with_more last same close one a b n h = grind (arith, nat_tests)

-- one line more
form_step : (code n : ℕ) (l : Line) (ls : List Line) → ((m : Line) (ms : List Line) → ls ≡ m ∷ ms → 0 < n) →
    in_form code (l ∷ ls) (size l + n) ≡ cond (eqb l.code code) (stands (is_last l.separator) code ls n) false
form_step code n l [] h = grind (arith, nat_tests)
form_step code n l (m ∷ ms) h =
    with_more (is_last l.separator) (eqb l.code code) (closes (m ∷ ms)) (all (λ k. eqb k.code code) (m ∷ ms)) (size l) (total (m ∷ ms)) n (h m ms refl)

-- a line that is there: where its code is the reply's, what is behind it decides, and else the reply is malformed
pub decides_more : (s : List ℕ) (code : ℕ) (l : Line) (rest : List ℕ) → Decides s false code rest → line_at rest ≡ Some l →
    (l.code ≡ code → Decides s (is_last l.separator) code (drop (size l) rest)) × ((l.code ≡ code → ⊥) → well_formed s ≡ false)
decides_more s code l rest (n, b, e) i =
    let (m, x, f) = turn_front n rest l b i in
    let w = size_of rest l i in
    let k : length rest ≡ size l + length (drop (size l) rest) = omega (arith, length-drop (size l) rest) in
    let g = form_step code (length (drop (size l) rest)) l (front_by m (drop (size l) rest)) (λ h hs q. more_front m (drop (size l) rest) h hs q) in
    let h : cond (eqb l.code code) (stands (is_last l.separator) code (front_by m (drop (size l) rest)) (length (drop (size l) rest))) false ≡ well_formed s =
    sym g ∙ (ap (in_form code (l ∷ front_by m (drop (size l) rest))) (sym k) ∙ (ap (λ (t : List Line). in_form code t (length rest)) (sym f) ∙ e)) in
    ((λ q. (m, omega (arith, length-drop (size l) rest), simp (eq-eqb l.code code q) at h)), (λ q. sym h ∙ simp (ne_eqb l.code code q)))

-- no line is there
pub decides_none : (s : List ℕ) (code : ℕ) (rest : List ℕ) → Decides s false code rest → line_at rest ≡ None → well_formed s ≡ false
decides_none s code rest (n, b, e) i = sym e ∙ ap (λ (t : List Line). in_form code t (length rest)) (front_none n rest i)

-- at the start, by the first line's code
pub decides_start : (s : List ℕ) → Decides s false (reply_code s) s
decides_start s = (length s, le_refl _, refl)

pub first_code : (s : List ℕ) (l : Line) → line_at s ≡ Some l → reply_code s ≡ l.code
first_code s l e = let (m, x, f) = turn_front (length s) s l (le_refl _) e in ap code_in f
