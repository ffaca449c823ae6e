-- Lines of a reply: how long they are, and the lines behind the one at the front.
use Rattle.std.proofs.Common.{◌≡◌, ℕ, zero, suc, ◌+◌, ◌<◌, ◌≤◌, Bool, true, false, cond, ◌&&◌, ◌||◌, eqb, leb, List, [], ◌∷◌, length, get_or, drop, le_refl, Some, None, Option, sym, refl, ap, ◌∙◌, arith}
use Rattle.std.proofs.lemmas.Bool.Decides.{nat_tests}
use Rattle.smtp.specs.declared.reply_line.Separator.{Separator}
use Rattle.smtp.specs.declared.reply_line.Separator.TheVariants.{Hyphen, Blank}
use Rattle.smtp.specs.Bytes.{letter, digit, all}
use Rattle.smtp.specs.Names.{label_byte}
use Rattle.std.proofs.lemmas.Bool.{true≢false, and_parts}
use Rattle.std.proofs.lemmas.List.{drop-drop, length-drop, length-take}
use Rattle.smtp.specs.Replies.{Line, width, code_digits, code_of, text_len, crlf_first, text_line, bare_line, line_at, size, front_in, front_by, front}
use Rattle.smtp.specs.Keywords.{is_keyword, size_in}

-- a keyword by its first byte and what is behind it
pub keyword_shape : (w : List ℕ) → 0 < length w → is_keyword w ≡ ((letter (get_or w 0 0) || digit (get_or w 0 0)) && all label_byte (drop 1 w))
keyword_shape [] h = absurd (omega arith)
keyword_shape (x ∷ w) h = refl

-- CRLF takes two bytes
crlf_two : (s : List ℕ) → crlf_first s ≡ true → 2 ≤ length s
crlf_two [] e = absurd (true≢false (sym e))
crlf_two (x ∷ []) e = let f : crlf_first (x ∷ []) ≡ false = grind (arith, nat_tests) in absurd (true≢false (sym e ∙ f))
crlf_two (x ∷ y ∷ s) e = omega arith

size_cond : (b : Bool) (l : Line) (n : ℕ) → (b ≡ true → size l ≤ n) → size_in (cond b (Some l) None) ≤ n
size_cond true l n h = h refl
size_cond false l n h = omega arith

some_cond : (b : Bool) (x y : Option Line) (n : ℕ) → size_in x ≤ n → size_in y ≤ n → size_in (cond b x y) ≤ n
some_cond true x y n h k = h
some_cond false x y n h k = k

text_size : (code : ℕ) (sep : Separator) (s : List ℕ) → width sep ≡ 1 → size_in (text_line code sep s) ≤ 4 + length s
text_size code sep s w = size_cond _ _ _ (λ e.
    let p = and_parts (crlf_first (drop (text_len s) s)) (leb (text_len s) 506) e in
    let q = crlf_two (drop (text_len s) s) p.0 in
    omega (arith, length-drop (text_len s) s, length-take (text_len s) s))

bare_size : (code : ℕ) (s : List ℕ) → size_in (bare_line code s) ≤ 3 + length s
bare_size code s = size_cond _ _ _ (λ e. let q = crlf_two s e in omega arith)

-- a line is no longer than what it is taken from
pub size_within : (s : List ℕ) → size_in (line_at s) ≤ length s
size_within [] = omega arith
size_within (a ∷ []) = omega arith
size_within (a ∷ b ∷ []) = omega arith
size_within (a ∷ b ∷ c ∷ []) = omega arith
size_within (a ∷ b ∷ c ∷ d ∷ s) =
    let h = text_size (code_of a b c) Hyphen s refl in
    let k = text_size (code_of a b c) Blank s refl in
    let m = bare_size (code_of a b c) (d ∷ s) in
    some_cond (code_digits a b c) _ _ _ (some_cond (eqb d 45) _ _ _ (omega arith) (some_cond (eqb d 32) _ _ _ (omega arith) (omega arith))) (omega arith)

pub size_of : (s : List ℕ) (l : Line) → line_at s ≡ Some l → size l ≤ length s
size_of s l e = simp e at (size_within s)

-- a line at the front leaves the lines behind it
pub turn_front : (n : ℕ) (s : List ℕ) (l : Line) → length s ≤ n → line_at s ≡ Some l → (m : ℕ) × (m + 1 ≡ n) × (front_by n s ≡ l ∷ front_by m (drop (size l) s))
turn_front zero s l h e = let b = size_of s l e in absurd (omega arith)
turn_front (suc m) s l h e = (m, omega arith, ap (λ (o : Option Line). front_in o s (front_by m)) e)

-- no line at the front, no lines
pub front_none : (n : ℕ) (s : List ℕ) → line_at s ≡ None → front_by n s ≡ []
front_none zero s e = refl
front_none (suc n) s e = ap (λ (o : Option Line). front_in o s (front_by n)) e

-- no bytes, no lines
pub front_nil : (n : ℕ) → front_by n [] ≡ []
front_nil zero = refl
front_nil (suc n) = refl

-- a bound above the length changes nothing
front_same : (n m : ℕ) (s : List ℕ) → length s ≤ n → length s ≤ m → front_by n s ≡ front_by m s
front_same n m [] h k = front_nil n ∙ sym (front_nil m)
front_same zero m (x ∷ s) h k = absurd (omega arith)
front_same (suc n) zero (x ∷ s) h k = absurd (omega arith)
front_same (suc n) (suc m) (x ∷ s) h k = go (line_at (x ∷ s)) (λ t a b. front_same n m t a b)
  where
    go : (o : Option Line) → ((t : List ℕ) → length t ≤ n → length t ≤ m → front_by n t ≡ front_by m t) → front_in o (x ∷ s) (front_by n) ≡ front_in o (x ∷ s) (front_by m)
    go None f = refl
    go (Some l) f =
        let e = length-drop (size l) (x ∷ s) in
        ap (λ (t : List Line). l ∷ t) (f (drop (size l) (x ∷ s)) (omega arith) (omega arith))

-- the lines at a place: the one there, and those behind it
pub front_more : (s : List ℕ) (at : ℕ) (l : Line) → line_at (drop at s) ≡ Some l → front (drop at s) ≡ l ∷ front (drop (at + size l) s)
front_more s at l e =
    let (m, x, f) = turn_front (length (drop at s)) (drop at s) l (le_refl _) e in
    let k : length (drop (at + size l) s) ≤ m = omega (arith, length-drop at s, length-drop (at + size l) s) in
    f ∙ ap (λ (t : List ℕ). l ∷ front_by m t) (drop-drop (size l) at s) ∙ ap (λ (t : List Line). l ∷ t) (front_same m (length (drop (at + size l) s)) (drop (at + size l) s) k (le_refl _))
