-- Keywords in the lines of a reply (RFC 5321 section 4.1.1.1), where each stands, and which are listed.
use Rattle.std.specs.Prelude.{ℕ, ◌+◌, Bool, false, cond, ◌&&◌, ◌||◌, List, [], ◌∷◌, length, drop, Some, None, Option, ◌==◌}
use Rattle.smtp.specs.declared.reply_line.ReplyLine.{ReplyLine}
use Rattle.smtp.specs.declared.reply_line.ReplyLine.TheVariants.{Greeting, Keyword, Other}
use Rattle.smtp.specs.Bytes.{letter, digit, same, all, some}
use Rattle.smtp.specs.Names.{label_byte}
use Rattle.smtp.specs.Parts.{first_part}
use Rattle.smtp.specs.Replies.{Line, width, size, line_at, front}

-- a keyword: a letter or digit, then letters, digits and hyphens
abbrev pub is_keyword : List ℕ → Bool
is_keyword [] = false
is_keyword (x ∷ w) = (letter x || digit x) && all label_byte w

-- a line's text starts with a keyword where its first word, up to a blank or the line's end, is one
abbrev pub first_word : List ℕ → List ℕ
first_word text = first_part 32 text

-- what is handed out of a line, and its place in the reply
pub data Part : Type 0 where
  greeting : List ℕ → ℕ → Part
  keyword : List ℕ → ℕ → Bool → Part
  other : List ℕ → ℕ → Part

-- a line that is not the first, by its text and the text's place
abbrev pub listing : List ℕ → ℕ → Part
listing text place =
    cond (is_keyword (first_word text)) (keyword (first_word text) place (length (first_word text) == length text)) (other text place)

-- the place of a line's text, where the line begins at `at`
abbrev pub text_place : ℕ → Line → ℕ
text_place at l = at + 3 + width l.separator

-- the first line greets; each other may list a keyword
abbrev pub part_of : ℕ → Line → Part
part_of at l = cond (at == 0) (greeting l.text (text_place at l)) (listing l.text (text_place at l))

abbrev pub part_in : ℕ → Option Line → Option Part
part_in at None = None
part_in at (Some l) = Some (part_of at l)

abbrev pub size_in : Option Line → ℕ
size_in None = 0
size_in (Some l) = size l

-- the line at a place of a reply, and where the next one begins
abbrev pub part_at : List ℕ → ℕ → Option Part
part_at s at = part_in at (line_at (drop at s))

abbrev pub next_at : List ℕ → ℕ → ℕ
next_at s at = at + size_in (line_at (drop at s))

-- the code's line, by what its references point to
abbrev pub seen : ReplyLine → Part
seen (Greeting text place) = greeting text.now place
seen (Keyword word place alone) = keyword word.now place alone
seen (Other text place) = other text.now place

-- whether what is handed out of a line is a word alone on it, in any letter case
abbrev pub lists_part : List ℕ → Part → Bool
lists_part word (greeting text place) = false
lists_part word (keyword found place alone) = alone && same found word
lists_part word (other text place) = false

-- a line lists a word that stands alone on it and is a keyword, in any letter case
abbrev pub lists_word : List ℕ → Line → Bool
lists_word word l = is_keyword l.text && same l.text word

-- the first line lists nothing
abbrev pub listed_in : List Line → List ℕ → Bool
listed_in [] word = false
listed_in (first ∷ ls) word = some (lists_word word) ls

-- a reply lists a word
abbrev pub listed : List ℕ → List ℕ → Bool
listed s word = listed_in (front s) word
