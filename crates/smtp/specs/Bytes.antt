-- Bytes by their kind, and words compared without regard to the case of their letters.
use Rattle.std.specs.Prelude.{◌≡◌, ℕ, Bool, true, false, ◌&&◌, List, [], ◌∷◌, ◌==◌}
use Rattle.std.specs.Int.{is_in_range}
use Rattle.std.specs.Char.{is_ascii_alphabetic, is_ascii_digit, to_ascii_lowercase}
use Rattle.std.specs.List.{list_all, list_any}

abbrev pub within : ℕ → ℕ → ℕ → Bool
within least x most = is_in_range least most x

abbrev pub letter : ℕ → Bool
letter x = is_ascii_alphabetic x

abbrev pub digit : ℕ → Bool
digit x = is_ascii_digit x

-- a capital as its small letter, and any other byte as it is
abbrev pub lowered : ℕ → ℕ
lowered x = to_ascii_lowercase x

-- the same word, but for the case of its letters
abbrev pub same : List ℕ → List ℕ → Bool
same [] [] = true
same [] (y ∷ b) = false
same (x ∷ a) [] = false
same (x ∷ a) (y ∷ b) = lowered x == lowered y && same a b

-- each passes the test
abbrev pub all : {A : Type 0} → (A → Bool) → List A → Bool
all test xs = list_all test xs

-- one or more pass the test
abbrev pub some : {A : Type 0} → (A → Bool) → List A → Bool
some test xs = list_any test xs

-- calls that give what the test says of each byte
abbrev pub Computes : (ℕ → Bool → Type 0) → (ℕ → Bool) → Type 0
Computes gives test = (b : ℕ) (r : Bool) → gives b r → r ≡ test b
