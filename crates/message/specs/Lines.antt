-- The lines of a text, each with the LF that ends it, and the header, which is the lines before the first empty one.
use Rattle.std.specs.Prelude.{◌≡◌, ℕ, Bool, cond, List, [], ◌∷◌, ◌++◌, ◌==◌}
use Rattle.std.specs.Borrow.{Bor}
use Rattle.smtp.specs.Bytes.{same}

-- a byte put at the front of the first line
abbrev pub longer : ℕ → List (List ℕ) → List (List ℕ)
longer x [] = (x ∷ []) ∷ []
longer x (l ∷ ls) = (x ∷ l) ∷ ls

-- the lines: each LF ends one, and what stands behind the last LF, if anything does, is the last
abbrev pub lines_of : List ℕ → List (List ℕ)
lines_of [] = []
lines_of (x ∷ s) = cond (x == 10) ((x ∷ []) ∷ lines_of s) (longer x (lines_of s))

-- lines, one after the other
abbrev pub joined : List (List ℕ) → List ℕ
joined [] = []
joined (l ∷ ls) = l ++ joined ls

abbrev pub first_of : List (List ℕ) → List ℕ
first_of [] = []
first_of (l ∷ ls) = l

-- the first line, or nothing of an empty text
abbrev pub first_line : List ℕ → List ℕ
first_line s = first_of (lines_of s)

-- CRLF alone
abbrev pub empty_line : List ℕ → Bool
empty_line l = same l (13 ∷ 10 ∷ [])

abbrev pub before_empty : List (List ℕ) → List (List ℕ)
before_empty [] = []
before_empty (l ∷ ls) = cond (empty_line l) [] (l ∷ before_empty ls)

-- the header of a section: the lines before the first empty line, or all
abbrev pub header : List ℕ → List ℕ
header s = joined (before_empty (lines_of s))

-- calls that give what the test says of each line
abbrev pub Computes : (Bor (List ℕ) → Bool → Type 0) → (List ℕ → Bool) → Type 0
Computes gives test = (line : Bor (List ℕ)) (r : Bool) → gives line r → r ≡ test line.now
