-- A text taken apart at each byte of one value: a name at its dots, a names text at its blanks.
use Rattle.std.specs.Prelude.{ℕ, cond, List, [], ◌∷◌, ◌==◌}

-- what stands before the first separator, or the whole text
abbrev pub first_part : ℕ → List ℕ → List ℕ
first_part sep [] = []
first_part sep (x ∷ s) = cond (x == sep) [] (x ∷ first_part sep s)

-- the parts behind the first separator; a separator at the end has an empty part behind it
abbrev pub other_parts : ℕ → List ℕ → List (List ℕ)
other_parts sep [] = []
other_parts sep (x ∷ s) = cond (x == sep) (first_part sep s ∷ other_parts sep s) (other_parts sep s)

abbrev pub parts : ℕ → List ℕ → List (List ℕ)
parts sep s = first_part sep s ∷ other_parts sep s

-- the text from its first separator on, or nothing
abbrev pub from_first : ℕ → List ℕ → List ℕ
from_first sep [] = []
from_first sep (x ∷ s) = cond (x == sep) (x ∷ s) (from_first sep s)

-- the text behind its first separator, or nothing
abbrev pub behind_first : ℕ → List ℕ → List ℕ
behind_first sep [] = []
behind_first sep (x ∷ s) = cond (x == sep) s (behind_first sep s)
