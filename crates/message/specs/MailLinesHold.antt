-- What a MAIL line is, in other words than its tests, and that reading and writing one undo each other.
use Rattle.std.specs.Prelude.{◌≡◌, ℕ, ◌≤◌, Bool, true, cond, not, ◌⊎◌, List, [], ◌∷◌, ◌++◌, map, length, take, drop, Ok, Err, codes, Decides, Result, MatchResult, nat_lt}
use Rattle.std.specs.List.{flat_map, AllByRecursion}
use Rattle.smtp.specs.declared.refusal.Refusal.{Refusal}
use Rattle.smtp.specs.declared.refusal.Refusal.TheVariants.{BadAddress, ShortBuffer}
use Rattle.smtp.specs.Bytes.{lowered}
use Rattle.smtp.specs.Names.{address}
use Rattle.message.specs.MailLines.{mail_from, crlf, path_of, options_of, path_form, mail_form, Mail, mail_line, written, writing, buffer_after}

-- the same but for the case of letters
abbrev pub Alike : List ℕ → List ℕ → Type 0
Alike a b = map lowered a ≡ map lowered b

-- a path: empty or an address
abbrev pub PathText : List ℕ → Type 0
PathText path = (path ≡ []) ⊎ (address path ≡ true)

-- an option: 1 or more bytes of 33 to 126
abbrev pub OptionText : List ℕ → Type 0
OptionText option = (1 ≤ length option) × AllByRecursion (λ x. (33 ≤ x) × (x ≤ 126)) option

-- a line made of its words, a path, `>`, options, each after one blank, and CRLF
abbrev pub made : List ℕ → List ℕ → List (List ℕ) → List ℕ
made words path options = words ++ (path ++ (62 ∷ (flat_map (λ option. 32 ∷ option) options ++ crlf)))

abbrev pub Parts : List ℕ → List ℕ → List (List ℕ) → Type 0
Parts words path options = Alike words mail_from × PathText path × AllByRecursion OptionText options

-- a line has its form exactly where it is made of such parts
abbrev pub FormHolds : Type 0
FormHolds = (line : List ℕ) → Decides (mail_form line) ((words path : List ℕ) × (options : List (List ℕ)) × Parts words path options × (line ≡ made words path options))

-- and then these are the path and the options that are read
abbrev pub PartsHold : Type 0
PartsHold = (words path : List ℕ) (options : List (List ℕ)) → Parts words path options →
    (path_of (made words path options) ≡ path) × (options_of (made words path options) ≡ options)

-- the path of an accepted line stands at its place in the line
abbrev pub PlaceHolds : Type 0
PlaceHolds = (line : List ℕ) (covered : Bool) (mail : Mail) → mail_line line covered ≡ Ok mail → take (length mail.path) (drop mail.place line) ≡ mail.path

-- what is written and comes covered is read as the same path and option
abbrev pub ReadBack : Type 0
ReadBack = (path : List ℕ) (require_tls : Bool) → PathText path → mail_line (written path require_tls) true ≡ Ok (record { path = path; place = 11; require_tls = require_tls })

-- a line in our written form: capitals, and REQUIRETLS or no option
abbrev pub Ours : List ℕ → Type 0
Ours line = (path : List ℕ) × PathText path × ((line ≡ codes "MAIL FROM:<" ++ (path ++ (codes ">" ++ crlf))) ⊎ (line ≡ codes "MAIL FROM:<" ++ (path ++ (codes "> REQUIRETLS" ++ crlf))))

-- is read, where it comes covered, and written again from what was read, is the same bytes
abbrev pub WrittenAgain : Type 0
WrittenAgain = (line : List ℕ) → Ours line → MatchResult (mail_line line true) (λ mail. written mail.path mail.require_tls ≡ line) (λ _. ⊥)

-- a path and option that are written and read back: every one that is accepted comes back
abbrev pub round_trip : List ℕ → ℕ → Result Bool Refusal
round_trip path room = cond (not (path_form path)) (Err BadAddress) (cond (nat_lt room 523) (Err ShortBuffer) (Ok true))

-- a line that came covered, read and written again, by what reading gives
abbrev pub again_in : Result Mail Refusal → ℕ → Result ℕ Refusal
again_in (Ok mail) room = writing mail.path mail.require_tls room
again_in (Err e) room = Err e

abbrev pub again_after : Result Mail Refusal → List ℕ → List ℕ
again_after (Ok mail) old = buffer_after mail.path mail.require_tls old
again_after (Err e) old = old
