-- What the form of content says in words of lines, and what the header is of its section.
use Rattle.std.specs.Prelude.{◌≡◌, ℕ, ◌≤◌, true, List, [], ◌∷◌, ◌++◌, length, take, codes}
use Rattle.message.specs.Lines.{header}
use Rattle.message.specs.Content.{plain, well_formed}

-- each byte of a line is 1 to 127, but neither CR nor LF
abbrev pub AllPlain : List ℕ → Type 0
AllPlain [] = Unit {0}
AllPlain (x ∷ l) = (plain x ≡ true) × AllPlain l

-- lines of at most 998 such bytes
abbrev pub AllLines : List (List ℕ) → Type 0
AllLines [] = Unit {0}
AllLines (l ∷ ls) = (length l ≤ 998) × AllPlain l × AllLines ls

-- each with CRLF behind it
abbrev pub ended : List (List ℕ) → List ℕ
ended [] = []
ended (l ∷ ls) = l ++ 13 ∷ 10 ∷ ended ls

-- a text is such lines, one after the other
abbrev pub InLines : List ℕ → Type 0
InLines s = (ls : List (List ℕ)) × AllLines ls × (s ≡ ended ls)

-- a section with a header of one line
abbrev pub section : List ℕ
section = codes "a" ++ 13 ∷ 10 ∷ 13 ∷ 10 ∷ codes "b" ++ 13 ∷ 10 ∷ []

pub record ContentHolds : Type 0 where
  -- what has the form is at most 32,768 bytes and such lines, and such lines of at most 32,768 bytes have it
  pub in_lines : (s : List ℕ) → well_formed s ≡ true → (length s ≤ 32768) × InLines s
  pub formed : (s : List ℕ) → length s ≤ 32768 → InLines s → well_formed s ≡ true
  -- the header is the front of its section, and ends before the first empty line
  pub front : (s : List ℕ) → take (length (header s)) s ≡ header s
  pub up_to_empty : header section ≡ codes "a" ++ 13 ∷ 10 ∷ []
