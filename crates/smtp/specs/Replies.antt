-- SMTP replies (RFC 5321 section 4.2): lines of a code, a separator and text, read off the bytes.
use Rattle.std.specs.Prelude.{ℕ, zero, suc, ◌+◌, ◌-◌, ◌*◌, Bool, true, false, cond, not, ◌&&◌, ◌||◌, List, [], ◌∷◌, length, take, drop, Some, None, Option, ◌==◌, nat_eq, nat_le, slice_index}
use Rattle.std.specs.List.{prefix_len}
use Rattle.smtp.specs.declared.reply_line.Separator.{Separator}
use Rattle.smtp.specs.declared.reply_line.Separator.TheVariants.{Hyphen, Blank, Missing}
use Rattle.smtp.specs.Bytes.{within, all}

-- a byte of a line's text: a tab, or a printable one
abbrev pub text_byte : ℕ → Bool
text_byte x = x == 9 || within 32 x 126

-- the three digits of a code: 2 to 5, 0 to 5, 0 to 9
abbrev pub code_digits : ℕ → ℕ → ℕ → Bool
code_digits a b c = within 50 a 53 && (within 48 b 53 && within 48 c 57)

abbrev pub code_of : ℕ → ℕ → ℕ → ℕ
code_of a b c = (a - 48) * 100 + (b - 48) * 10 + (c - 48)

abbrev pub digits_code : ℕ → ℕ → ℕ → Option ℕ
digits_code a b c = cond (code_digits a b c) (Some (code_of a b c)) None

-- a line of a reply, without its CRLF
pub record Line : Type 0 where
  pub code : ℕ
  pub separator : Separator
  pub text : List ℕ

-- the last line has a blank behind its code, or nothing
abbrev pub is_last : Separator → Bool
is_last Hyphen = false
is_last Blank = true
is_last Missing = true

abbrev pub width : Separator → ℕ
width Hyphen = 1
width Blank = 1
width Missing = 0

-- the length of a line, its CRLF counted
abbrev pub size : Line → ℕ
size l = 3 + width l.separator + length l.text + 2

-- how many bytes of text stand at the front
abbrev pub text_len : List ℕ → ℕ
text_len s = prefix_len text_byte s

-- CRLF stands at the front
abbrev pub crlf_first : List ℕ → Bool
crlf_first s = slice_index s 0 == 13 && slice_index s 1 == 10

-- the line whose text begins here and goes up to CRLF: with the four bytes before it and CRLF at most 512
abbrev pub text_line : ℕ → Separator → List ℕ → Option Line
text_line code sep s =
    cond (crlf_first (drop (text_len s) s) && nat_le (text_len s) 506) (Some (record { code = code; separator = sep; text = take (text_len s) s })) None

-- the line of a code alone, behind which CRLF stands
abbrev pub bare_line : ℕ → List ℕ → Option Line
bare_line code s = cond (crlf_first s) (Some (record { code = code; separator = Missing; text = [] })) None

-- what stands behind a code: a hyphen or a blank and text, or nothing
abbrev pub behind_code : ℕ → ℕ → List ℕ → Option Line
behind_code code d s =
    cond (d == 45) (text_line code Hyphen s) (cond (d == 32) (text_line code Blank s) (bare_line code (d ∷ s)))

-- the line at the front
abbrev pub line_at : List ℕ → Option Line
line_at [] = None
line_at (a ∷ []) = None
line_at (a ∷ b ∷ []) = None
line_at (a ∷ b ∷ c ∷ []) = None
line_at (a ∷ b ∷ c ∷ d ∷ s) = cond (code_digits a b c) (behind_code (code_of a b c) d s) None

-- a line that is there, and the lines behind it
abbrev pub front_in : Option Line → List ℕ → (List ℕ → List Line) → List Line
front_in None s more = []
front_in (Some l) s more = l ∷ more (drop (size l) s)

-- the lines at the front, up to the first that breaks its form, at most so many
abbrev pub front_by : ℕ → List ℕ → List Line
front_by zero s = []
front_by (suc n) s = front_in (line_at s) s (front_by n)

-- all of them: there are no more lines than bytes
abbrev pub front : List ℕ → List Line
front s = front_by (length s) s

-- all but the last have a hyphen, and the last has none
abbrev pub closes : List Line → Bool
closes [] = false
closes (l ∷ []) = is_last l.separator
closes (l ∷ m ∷ ls) = not (is_last l.separator) && closes (m ∷ ls)

-- the length of lines, one after the other
abbrev pub total : List Line → ℕ
total [] = 0
total (l ∷ ls) = size l + total ls

-- the code of the first line
abbrev pub code_in : List Line → ℕ
code_in [] = 0
code_in (l ∷ ls) = l.code

abbrev pub reply_code : List ℕ → ℕ
reply_code s = code_in (front s)

-- lines that close, all of one code, are a reply of so many bytes
abbrev pub in_form : ℕ → List Line → ℕ → Bool
in_form code ls n = closes ls && (all (λ l. nat_eq l.code code) ls && total ls == n)

-- a well-formed reply is such lines and nothing else
abbrev pub well_formed : List ℕ → Bool
well_formed s = in_form (reply_code s) (front s) (length s)
