-- Replies in the words of RFC 5321: lines one after the other, all with one code, all but the last with a hyphen.
use Rattle.std.specs.Prelude.{◌≡◌, ℕ, ◌≤◌, true, List, [], ◌∷◌, ◌++◌, length, take, drop, Some}
use Rattle.smtp.specs.declared.reply_line.Separator.{Separator}
use Rattle.smtp.specs.declared.reply_line.Separator.TheVariants.{Hyphen, Blank, Missing}
use Rattle.smtp.specs.Bytes.{all}
use Rattle.smtp.specs.Replies.{Line, code_digits, code_of, text_byte, front, well_formed}
use Rattle.smtp.specs.Keywords.{Part, greeting, keyword, other, part_at}

-- what stands between a line's code and its text
abbrev pub mark : Separator → List ℕ
mark Hyphen = 45 ∷ []
mark Blank = 32 ∷ []
mark Missing = []

-- a line as it goes over the wire, by the three digits of its code
abbrev pub wire : ℕ → ℕ → ℕ → Line → List ℕ
wire a b c l = a ∷ b ∷ c ∷ (mark l.separator ++ (l.text ++ 13 ∷ 10 ∷ []))

-- lines one after the other
abbrev pub spelled : ℕ → ℕ → ℕ → List Line → List ℕ
spelled a b c [] = []
spelled a b c (l ∷ ls) = wire a b c l ++ spelled a b c ls

-- a line that may stand before another has a hyphen
abbrev pub Inner : Separator → Type 0
Inner Hyphen = Unit {0}
Inner Blank = ⊥
Inner Missing = ⊥

-- the last line has a blank and text, or neither
abbrev pub Final : Separator → List ℕ → Type 0
Final Hyphen text = ⊥
Final Blank text = Unit {0}
Final Missing text = text ≡ []

abbrev pub Ends : List Line → Type 0
Ends [] = ⊥
Ends (l ∷ []) = Final l.separator l.text
Ends (l ∷ m ∷ ls) = Inner l.separator × Ends (m ∷ ls)

-- each line bears the code, has text of the right bytes, and takes at most 512 bytes with its CRLF
abbrev pub Each : ℕ → ℕ → ℕ → List Line → Type 0
Each a b c [] = Unit {0}
Each a b c (l ∷ ls) =
    (l.code ≡ code_of a b c) × (all text_byte l.text ≡ true) × (length (wire a b c l) ≤ 512) × Each a b c ls

-- a reply of these lines
abbrev pub Formed : List ℕ → List Line → Type 0
Formed s ls =
    (a : ℕ) × (b : ℕ) × (c : ℕ) × (code_digits a b c ≡ true) × Ends ls × Each a b c ls × (s ≡ spelled a b c ls)

-- a well-formed reply is the lines that are read off it, put together again; and what is such lines is well formed and read as those
abbrev pub ReplyIsLines : Type 0
ReplyIsLines = (s : List ℕ) → (well_formed s ≡ true → Formed s (front s)) × ((ls : List Line) → Formed s ls → (well_formed s ≡ true) × (front s ≡ ls))

abbrev pub part_bytes : Part → List ℕ
part_bytes (greeting text place) = text
part_bytes (keyword word place alone) = word
part_bytes (other text place) = text

abbrev pub part_place : Part → ℕ
part_place (greeting text place) = place
part_place (keyword word place alone) = place
part_place (other text place) = place

-- what is handed out of a line is the part of the reply at its place
abbrev pub PartsInPlace : Type 0
PartsInPlace = (s : List ℕ) (at : ℕ) (p : Part) → part_at s at ≡ Some p → part_bytes p ≡ take (length (part_bytes p)) (drop (part_place p) s)

pub record RepliesHold : Type 0 where
  pub reply_is_lines : ReplyIsLines
  pub parts_in_place : PartsInPlace
