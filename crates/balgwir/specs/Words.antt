-- Words that stand for values: the name of each value of a kind, and what a word names.
use Rattle.std.specs.Prelude.{◌≡◌, ℕ, Bool, true, false, cond, ◌&&◌, List, length, Ok, Err, codes, Result, ◌≢◌, nat_lt}
use Rattle.smtp.specs.Bytes.{within, all}
use Rattle.balgwir.specs.declared.coverage.Coverage.{Coverage}
use Rattle.balgwir.specs.declared.coverage.Coverage.TheVariants.{Covered, Clear}

-- what a word names, by the name of each value: the value of that name, and the error where no value has it
abbrev pub Names : {A E : Type 0} → (A → List ℕ) → List ℕ → E → Result A E → Type 0
Names name word error (Ok a) = name a ≡ word
Names {A = A} name word error (Err e) = (e ≡ error) × ((a : A) → name a ≢ word)

-- how an answer is printed
abbrev pub yes_no : Bool → List ℕ
yes_no answer = cond answer (codes "yes") (codes "no")

-- how a MAIL line came: covered by TLS, or clear
abbrev pub coverage_name : Coverage → List ℕ
coverage_name Covered = codes "covered"
coverage_name Clear = codes "clear"

abbrev pub is_covered : Coverage → Bool
is_covered Covered = true
is_covered Clear = false

-- a text that makes one line of what is printed: it has some bytes, each of 32 to 126, so that no line end is among them
abbrev pub one_line : List ℕ → Bool
one_line text = nat_lt 0 (length text) && all (λ x. within 32 x 126) text
