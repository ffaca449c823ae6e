-- The lines of a policy text, and the key and the value of each (RFC 8461 section 3.2).
use Rattle.std.specs.Prelude.{ℕ, Bool, false, cond, ◌&&◌, ◌||◌, List, [], ◌∷◌, length, ◌==◌, nat_le, nat_lt}
use Rattle.std.specs.List.{list_all}
use Rattle.smtp.specs.Bytes.{within, letter, digit}
use Rattle.smtp.specs.Parts.{first_part, behind_first, parts}

-- a line that LF ends, without the CR before the LF
abbrev pub without_cr : List ℕ → List ℕ
without_cr [] = []
without_cr (x ∷ []) = cond (x == 13) [] (x ∷ [])
without_cr (x ∷ (y ∷ s)) = x ∷ without_cr (y ∷ s)

-- what stands behind the last LF is a line that the text's end ends, unless it is nothing
abbrev pub last_line : List ℕ → List (List ℕ)
last_line [] = []
last_line (x ∷ s) = (x ∷ s) ∷ []

abbrev pub ended : List (List ℕ) → List (List ℕ)
ended [] = []
ended (p ∷ []) = last_line p
ended (p ∷ (q ∷ ps)) = without_cr p ∷ ended (q ∷ ps)

-- the lines of a text: LF, CRLF or the text's end ends each
unfoldable pub lines : List ℕ → List (List ℕ)
lines text = ended (parts 10 text)

abbrev pub blank : ℕ → Bool
blank x = x == 32 || x == 9

-- without the blanks and tabs at the front
abbrev pub unled : List ℕ → List ℕ
unled [] = []
unled (x ∷ s) = cond (blank x) (unled s) (x ∷ s)

-- without the blanks and tabs at the end
abbrev pub untrailed : List ℕ → List ℕ
untrailed [] = []
untrailed (x ∷ s) = cond (list_all blank (x ∷ s)) [] (x ∷ untrailed s)

-- a line's key is what stands before its first colon; its value what stands behind it, without the blanks and tabs around
abbrev pub key : List ℕ → List ℕ
key line = first_part 58 line

abbrev pub value : List ℕ → List ℕ
value line = untrailed (unled (behind_first 58 line))

-- a key: a letter or digit, then at most 31 letters, digits, `_`, `-` and `.`
abbrev pub key_byte : ℕ → Bool
key_byte x = letter x || (digit x || (x == 95 || within 45 x 46))

abbrev pub is_key : List ℕ → Bool
is_key [] = false
is_key (x ∷ k) = (letter x || digit x) && (nat_le (length k) 31 && list_all key_byte k)

-- a byte of a line: any but the control characters, of which the tab may stand there
abbrev pub line_byte : ℕ → Bool
line_byte x = x == 9 || (within 32 x 126 || within 128 x 255)

-- a line of key, colon and value
abbrev pub is_field : List ℕ → Bool
is_field line = is_key (key line) && (nat_lt (length (key line)) (length line) && list_all line_byte line)
