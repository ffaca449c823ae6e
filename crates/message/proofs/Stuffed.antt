-- Dot-stuffing line by line: its length, and how it is written part by part.
use Rattle.std.proofs.Common.{◌≡◌, ℕ, suc, ◌+◌, ◌*◌, ◌≤◌, Bool, true, false, cond, eqb, filter, List, [], ◌∷◌, ◌++◌, length, drop, sym, refl, ap, ◌∙◌, arith}
use Rattle.std.proofs.lemmas.Bool.Decides.{nat_tests}
use Rattle.std.proofs.lemmas.List.{append_assoc, length-append}
use Rattle.message.specs.Lines.{longer, lines_of, joined}
use Rattle.message.specs.MailLines.{at_front}
use Rattle.message.specs.Stuffing.{dot_first, stuffed_lines, dot_starts, dot_line, stuffed, stuffed_len}
use Rattle.message.specs.Writing.{Written}
use Rattle.message.proofs.Lined.{rest_of, rest_longer, joined_lines}

-- the lines that begin with a dot
pub dots_are : (ls : List (List ℕ)) → length (filter dot_first ls) ≡ dot_starts ls
dots_are [] = refl
dots_are (l ∷ ls) =
    let e = dots_are ls in
    elim (dot_first l) as (λ b. length (cond b (l ∷ filter dot_first ls) (filter dot_first ls)) ≡ cond b (suc (dot_starts ls)) (dot_starts ls)) [ true ↦ ap suc e | false ↦ e ]

dots_longer : (x : ℕ) (ls : List (List ℕ)) → dot_starts (longer x ls) ≡ cond (eqb x 46) (suc (dot_starts (rest_of ls))) (dot_starts (rest_of ls))
dots_longer x [] = refl
dots_longer x (l ∷ ls) = refl

-- a line that begins with a dot has two bytes or more, but for the last
dots_both : (s : List ℕ) → (2 * dot_starts (lines_of s) ≤ length s + 1) × (2 * dot_starts (rest_of (lines_of s)) ≤ length s)
dots_both [] = (omega arith, omega arith)
dots_both (x ∷ s) =
    let (a, b) = dots_both s in
    let e = dots_longer x (lines_of s) in
    let f = rest_longer x (lines_of s) in
    (grind (arith, nat_tests), grind (arith, nat_tests))

pub dots_most : (s : List ℕ) → 2 * dot_starts (lines_of s) ≤ length s + 1
dots_most s = (dots_both s).0

-- a line as it is written
abbrev doubled : List ℕ → List ℕ
doubled l = cond (dot_first l) (46 ∷ l) l

length_doubled : (l : List ℕ) (n : ℕ) → length (doubled l) + n ≡ length l + cond (dot_first l) (suc n) n
length_doubled l n = elim (dot_first l) as (λ b. length (cond b (46 ∷ l) l) + n ≡ length l + cond b (suc n) n) [ true ↦ omega arith | false ↦ refl ]

length_lines : (ls : List (List ℕ)) → length (joined (stuffed_lines ls)) ≡ length (joined ls) + dot_starts ls
length_lines [] = refl
length_lines (l ∷ ls) =
    let e = length_lines ls in
    let f = length_doubled l (dot_starts ls) in
    omega (arith, length-append (doubled l) (joined (stuffed_lines ls)), length-append l (joined ls))

-- the law of the length
pub stuffed_length : (s : List ℕ) → length (stuffed s) ≡ stuffed_len s
stuffed_length s =
    let e = length_lines (lines_of s) in
    let f = ap length (joined_lines s) in
    omega (arith, length-append (joined (stuffed_lines (lines_of s))) dot_line)

-- a first line, and what is stuffed behind it
stuffed_more : (s l t : List ℕ) → lines_of s ≡ l ∷ lines_of t → stuffed s ≡ doubled l ++ stuffed t
stuffed_more s l t e = ap (λ ls. joined (stuffed_lines ls) ++ dot_line) e ∙ append_assoc (doubled l) (joined (stuffed_lines (lines_of t))) dot_line

-- so much of the content is written that its lines from `rest` on, and the dot line, are still to come
abbrev pub Comes : List ℕ → List ℕ → ℕ → List ℕ → List ℕ → Type 0
Comes content lent len out rest = (done : List ℕ) × (stuffed content ≡ done ++ stuffed rest) × Written len out done lent

-- what is still to come has room
coming : (content lent : List ℕ) (len : ℕ) (out rest : List ℕ) → stuffed_len content ≤ length lent → Comes content lent len out rest → len + stuffed_len rest ≤ length lent
coming content lent len out rest h (done, e, w) =
    let a = ap length e in
    let b = stuffed_length content in
    let d = stuffed_length rest in
    let f = w.0 in
    omega (arith, length-append done (stuffed rest))

one_more : (l : List ℕ) (dot : Bool) → cond dot 1 0 + length l ≡ length (cond dot (46 ∷ l) l)
one_more l true = omega arith
one_more l false = omega arith

pub line_room : (content lent : List ℕ) (len : ℕ) (out rest l t : List ℕ) (dot : Bool) → stuffed_len content ≤ length lent → Comes content lent len out rest → lines_of rest ≡ l ∷ lines_of t → dot ≡ dot_first l →
    len + cond dot 1 0 + length l ≤ length lent
line_room content lent len out rest l t dot h k e d =
    let a = coming content lent len out rest h k in
    let b = ap length (stuffed_more rest l t e) in
    let f = stuffed_length rest in
    let g : cond dot 1 0 + length l ≡ length (doubled l) = one_more l dot ∙ ap (λ b. length (cond b (46 ∷ l) l)) d in
    omega (arith, length-append (doubled l) (stuffed t))

pub end_room : (content lent : List ℕ) (len : ℕ) (out rest : List ℕ) → stuffed_len content ≤ length lent → Comes content lent len out rest → len + 3 ≤ length lent
end_room content lent len out rest h k = let a = coming content lent len out rest h k in omega arith

-- what a call that puts a part tells
abbrev Puts : ℕ → List ℕ → List ℕ → ℕ → List ℕ → Type 0
Puts len out part len' out' = (text lent : List ℕ) → Written len out text lent → Written len' out' (text ++ part) lent

-- the dot line behind all
pub all_came : (content lent : List ℕ) (len : ℕ) (out rest : List ℕ) (len' : ℕ) (out' : List ℕ) → lines_of rest ≡ [] → Puts len out dot_line len' out' → Comes content lent len out rest →
    out' ≡ stuffed content ++ drop (stuffed_len content) lent
all_came content lent len out rest len' out' e f (done, h, w) =
    let i : stuffed content ≡ done ++ dot_line = h ∙ ap (λ ls. done ++ (joined (stuffed_lines ls) ++ dot_line)) e in
    (f done lent w).1 ∙ ap (λ s. at_front s lent) (sym i) ∙ ap (λ n. stuffed content ++ drop n lent) (stuffed_length content)
