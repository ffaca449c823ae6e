-- What the calls come to for their caller: each refusal by the table of checks, and what is handed out within the memory that was lent.
use Rattle.std.specs.Prelude.{◌≡◌, ℕ, ◌+◌, ◌≤◌, Bool, true, false, cond, not, ◌&&◌, List, [], ◌∷◌, length, take, drop, pos, Ok, Decides, nat_lt}
use Rattle.smtp.specs.Bytes.{all, some}
use Rattle.smtp.specs.Replies.{reply_code}
use Rattle.smtp.specs.Replies as replies
use Rattle.message.specs.Content.{well_formed}
use Rattle.message.specs.Lines.{lines_of, header}
use Rattle.message.specs.MailLines.{path_of, options_of, path_form, mail_form, is_known, is_require_tls, repeated, writing}
use Rattle.message.specs.Tags.{fields, tls_required}
use Rattle.balgwir_c.specs.declared.mail.TaggedMail.{TaggedMail}
use Rattle.balgwir_c.specs.Calls.{tagged_mail, status}

-- a row of the table: the number of a refusal, and whether its check fails
pub record Check : Type 0 where
  pub number : ℕ
  pub fails : Bool

abbrev pub row : ℕ → Bool → Check
row n b = record { number = n; fails = b }

-- the first check that fails gives the number; 0 where none does
abbrev pub first_failing : List Check → ℕ
first_failing [] = 0
first_failing (k ∷ ks) = cond k.fails k.number (first_failing ks)

abbrev pub two_or_more : List (List ℕ) → Bool
two_or_more [] = false
two_or_more (f ∷ []) = false
two_or_more (f ∷ g ∷ fs) = true

abbrev pub has_option : List ℕ → Bool
has_option line = some is_require_tls (options_of line)

-- the table for a MAIL line, which came covered by TLS or not, and a header section
abbrev pub tag_checks : List ℕ → Bool → List ℕ → List Check
tag_checks line covered section =
    -- above 523 bytes
    row 1 (nat_lt 523 (length line))
    -- broken form
    ∷ row 2 (not (mail_form line))
    -- an option or its value not known
    ∷ row 3 (not (all is_known (options_of line)))
    -- one option twice
    ∷ row 4 (repeated (options_of line))
    -- REQUIRETLS on a line that came uncovered
    ∷ row 5 (has_option line && not covered)
    -- two or more TLS-Required fields in a well-formed section, without the option
    ∷ row 6 (well_formed section && (not (has_option line) && two_or_more (tls_required (fields (lines_of (header section))))))
    -- a section that breaks its form
    ∷ row 9 (not (well_formed section))
    ∷ []

-- the table for a path and a buffer of so many bytes
abbrev pub write_checks : List ℕ → ℕ → List Check
write_checks path room =
    -- a path that is ill-formed
    row 8 (not (path_form path))
    -- a buffer under 523 bytes
    ∷ row 10 (nat_lt room 523)
    ∷ []

-- the path that is told of lies in the line, and is the line's path
pub record PathIn (line : List ℕ) (place len : ℕ) : Type 0 where
  pub within : place + len ≤ length line
  pub is : take len (drop place line) ≡ path_of line
  pub form : path_form (path_of line) ≡ true

pub record CallsHold : Type 0 where
  -- the answers are the table's
  pub tag_by_table : (line : List ℕ) (covered : Bool) (section : List ℕ) → status (tagged_mail line covered section) ≡ pos (first_failing (tag_checks line covered section))
  pub write_by_table : (path : List ℕ) (require_tls : Bool) (room : ℕ) → status (writing path require_tls room) ≡ pos (first_failing (write_checks path room))
  -- of an accepted message the path stands where it is told to, and the tag is 1 exactly where the line has the option
  pub path_in : (line : List ℕ) (covered : Bool) (section : List ℕ) (mail : TaggedMail) → tagged_mail line covered section ≡ Ok mail → PathIn line mail.path_place mail.path_len
  pub required : (line : List ℕ) (covered : Bool) (section : List ℕ) (mail : TaggedMail) → tagged_mail line covered section ≡ Ok mail → Decides (has_option line) (mail.tag ≡ pos 1)
  -- a line that is written has at most 523 bytes, and so lies in its buffer
  pub line_in : (path : List ℕ) (require_tls : Bool) (room n : ℕ) → writing path require_tls room ≡ Ok n → (n ≤ 523) × (523 ≤ room)
  -- the code of a well-formed reply is none below 200, so that 0 says malformed
  pub code_in : (reply : List ℕ) → replies.well_formed reply ≡ true → (200 ≤ reply_code reply) × (reply_code reply ≤ 559)
