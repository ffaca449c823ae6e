-- Dot-stuffing (RFC 5321 section 4.5.2): a line that begins with a dot gets one more in front, and a line of a single dot ends it all.
use Rattle.std.specs.Prelude.{ℕ, suc, ◌+◌, Bool, false, cond, ◌&&◌, List, [], ◌∷◌, ◌++◌, length, drop, Ok, Err, Result, ◌==◌, nat_le}
use Rattle.smtp.specs.declared.refusal.Refusal.{Refusal}
use Rattle.smtp.specs.declared.refusal.Refusal.TheVariants.{BadContent, ShortBuffer}
use Rattle.smtp.specs.Bytes.{same}
use Rattle.message.specs.Content.{well_formed}
use Rattle.message.specs.Lines.{lines_of, joined}

abbrev pub dot_first : List ℕ → Bool
dot_first [] = false
dot_first (x ∷ l) = x == 46

-- each line that begins with a dot gets one more in front
abbrev pub stuffed_lines : List (List ℕ) → List (List ℕ)
stuffed_lines [] = []
stuffed_lines (l ∷ ls) = cond (dot_first l) (46 ∷ l) l ∷ stuffed_lines ls

-- a dot alone on its line
abbrev pub dot_line : List ℕ
dot_line = 46 ∷ 13 ∷ 10 ∷ []

abbrev pub stuffed : List ℕ → List ℕ
stuffed s = joined (stuffed_lines (lines_of s)) ++ dot_line

-- how many lines begin with a dot
abbrev pub dot_starts : List (List ℕ) → ℕ
dot_starts [] = 0
dot_starts (l ∷ ls) = cond (dot_first l) (suc (dot_starts ls)) (dot_starts ls)

-- the length of the stuffed content: one more for each line that begins with a dot, and three for the dot line
abbrev pub stuffed_len : List ℕ → ℕ
stuffed_len s = length s + dot_starts (lines_of s) + 3

-- what stuffing into a buffer of `room` bytes answers: 9 where the content breaks its form, else 10 where the buffer is too short
abbrev pub stuff_answer : List ℕ → ℕ → Result ℕ Refusal
stuff_answer s room = cond (well_formed s) (cond (nat_le (stuffed_len s) room) (Ok (stuffed_len s)) (Err ShortBuffer)) (Err BadContent)

-- what the buffer holds then: the stuffed content at its front, or what it held before
abbrev pub stuff_buffer : List ℕ → List ℕ → List ℕ
stuff_buffer s out = cond (well_formed s && nat_le (stuffed_len s) (length out)) (stuffed s ++ drop (stuffed_len s) out) out

-- the other way: the lines up to the dot line, each without its first dot
abbrev pub without_dot : List ℕ → List ℕ
without_dot [] = []
without_dot (x ∷ l) = cond (x == 46) l (x ∷ l)

abbrev pub unstuffed_lines : List (List ℕ) → List (List ℕ)
unstuffed_lines [] = []
unstuffed_lines (l ∷ ls) = cond (same l dot_line) [] (without_dot l ∷ unstuffed_lines ls)

abbrev pub unstuffed : List ℕ → List ℕ
unstuffed t = joined (unstuffed_lines (lines_of t))
