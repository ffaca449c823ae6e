-- MAIL lines (RFC 5321 section 4.1.1.2, RFC 8689 section 2): when one is accepted, what it says, and how we write one.
use Rattle.std.specs.Prelude.{ℕ, ◌-◌, Bool, false, cond, not, ◌&&◌, ◌||◌, List, [], ◌∷◌, ◌++◌, length, take, drop, Ok, Err, codes, Result, ◌==◌, nat_le, nat_lt}
use Rattle.smtp.specs.declared.refusal.Refusal.{Refusal}
use Rattle.smtp.specs.declared.refusal.Refusal.TheVariants.{MailLineTooLong, MailLineForm, UnknownOption, RepeatedOption, RequireTlsInClear, BadAddress, ShortBuffer}
use Rattle.smtp.specs.Bytes.{within, digit, same, all, some}
use Rattle.smtp.specs.Parts.{first_part, other_parts, behind_first}
use Rattle.smtp.specs.Names.{address}
use Rattle.smtp.specs.Replies.{crlf_first}

-- the words that a line begins with, in any letter case
abbrev pub mail_from : List ℕ
mail_from = codes "MAIL FROM:<"

abbrev pub crlf : List ℕ
crlf = 13 ∷ 10 ∷ []

-- what stands between those words and CRLF
abbrev pub inner : List ℕ → List ℕ
inner line = drop 11 (take (length line - 2) line)

-- the path: what stands before the first `>`
abbrev pub path_of : List ℕ → List ℕ
path_of line = first_part 62 (inner line)

-- what stands behind that `>`
abbrev pub tail_of : List ℕ → List ℕ
tail_of line = behind_first 62 (inner line)

-- the options: what stands behind each blank
abbrev pub options_of : List ℕ → List (List ℕ)
options_of line = other_parts 32 (tail_of line)

-- a path is empty or an address
abbrev pub path_form : List ℕ → Bool
path_form path = length path == 0 || address path

-- an option is 1 or more bytes of 33 to 126
abbrev pub option_form : List ℕ → Bool
option_form option = nat_le 1 (length option) && all (λ x. within 33 x 126) option

-- the line's two ends: its first words, and CRLF
abbrev pub ends : List ℕ → Bool
ends line = crlf_first (drop (length line - 2) line) && same (take 11 (take (length line - 2) line)) mail_from

-- its path, behind which a `>` stands
abbrev pub path_part : List ℕ → Bool
path_part line = nat_lt (length (path_of line)) (length (inner line)) && path_form (path_of line)

-- behind the `>` nothing but options, each after one blank
abbrev pub options_part : List ℕ → Bool
options_part line = length (first_part 32 (tail_of line)) == 0 && all option_form (options_of line)

-- a line that has its form
abbrev pub mail_form : List ℕ → Bool
mail_form line = ends line && (path_part line && options_part line)

-- the known options
abbrev pub is_require_tls : List ℕ → Bool
is_require_tls option = same option (codes "REQUIRETLS")

abbrev pub is_size : List ℕ → Bool
is_size option = same (take 5 option) (codes "SIZE=") && (within 1 (length (drop 5 option)) 20 && all digit (drop 5 option))

abbrev pub is_ret : List ℕ → Bool
is_ret option = same option (codes "RET=FULL") || same option (codes "RET=HDRS")

abbrev pub is_known : List ℕ → Bool
is_known option = is_require_tls option || (is_size option || is_ret option)

-- two or more options pass the test
abbrev pub twice : (List ℕ → Bool) → List (List ℕ) → Bool
twice test [] = false
twice test (option ∷ options) = (test option && some test options) || twice test options

-- one option twice, whatever its values
abbrev pub repeated : List (List ℕ) → Bool
repeated options = twice is_require_tls options || (twice is_size options || twice is_ret options)

-- what a line says: its path, the path's place in the line, and whether TLS is required on the whole way
pub record Mail : Type 0 where
  pub path : List ℕ
  pub place : ℕ
  pub require_tls : Bool

abbrev pub mail_of : List ℕ → Mail
mail_of line = record { path = path_of line; place = 11; require_tls = some is_require_tls (options_of line) }

-- a line, which came covered by TLS or not: the first check that fails gives the refusal
abbrev pub mail_line : List ℕ → Bool → Result Mail Refusal
mail_line line covered =
    cond (nat_lt 523 (length line)) (Err MailLineTooLong)
    (cond (not (mail_form line)) (Err MailLineForm)
    (cond (not (all is_known (options_of line))) (Err UnknownOption)
    (cond (repeated (options_of line)) (Err RepeatedOption)
    (cond (some is_require_tls (options_of line) && not covered) (Err RequireTlsInClear)
    (Ok (mail_of line))))))

-- our written form: capitals, and REQUIRETLS or no option
abbrev pub ending : Bool → List ℕ
ending require_tls = cond require_tls (codes "> REQUIRETLS") (codes ">") ++ crlf

abbrev pub written : List ℕ → Bool → List ℕ
written path require_tls = mail_from ++ (path ++ ending require_tls)

-- writing one into a buffer of so many bytes gives its length
abbrev pub writing : List ℕ → Bool → ℕ → Result ℕ Refusal
writing path require_tls room =
    cond (not (path_form path)) (Err BadAddress)
    (cond (nat_lt room 523) (Err ShortBuffer)
    (Ok (length (written path require_tls))))

-- a text at the front of a buffer, and what lay behind it there
abbrev pub at_front : List ℕ → List ℕ → List ℕ
at_front text old = text ++ drop (length text) old

-- the buffer afterwards: the line at its front, or, where writing is refused, as it was
abbrev pub buffer_after : List ℕ → Bool → List ℕ → List ℕ
buffer_after path require_tls old = cond (path_form path && nat_le 523 (length old)) (at_front (written path require_tls) old) old
