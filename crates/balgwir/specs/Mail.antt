-- What a MAIL line and a header section say together: the checks that they have to pass, and then the message's tag and its path.
use Rattle.std.specs.Prelude.{ℕ, Bool, true, false, cond, not, ◌&&◌, List, [], ◌∷◌, length, Ok, Err, Result, nat_le, nat_lt}
use Rattle.smtp.specs.declared.refusal.Refusal.{Refusal}
use Rattle.smtp.specs.declared.refusal.Refusal.TheVariants.{MailLineTooLong, MailLineForm, UnknownOption, RepeatedOption, RequireTlsInClear, RepeatedTlsRequired, BadContent}
use Rattle.smtp.specs.Bytes.{all, some}
use Rattle.message.specs.declared.tag.Tag.{Tag}
use Rattle.message.specs.declared.tag.Tag.TheVariants.{Required, None}
use Rattle.message.specs.Content.{well_formed}
use Rattle.message.specs.Lines.{lines_of, header}
use Rattle.message.specs.MailLines.{mail_form, is_known, is_require_tls, repeated, options_of, path_of}
use Rattle.message.specs.Tags.{fields, tls_required, field_tag}
use Rattle.message.specs.MailParts.{said}
use Rattle.balgwir.specs.declared.tag_report.MailAnswer.{MailAnswer}

-- the line has the option
abbrev pub requires : List ℕ → Bool
requires line = some is_require_tls (options_of line)

-- the TLS-Required fields of the section's header
abbrev pub tls_fields : List ℕ → List (List ℕ)
tls_fields section = tls_required (fields (lines_of (header section)))

-- the checks over both inputs, in the order of their numbers, each with whether it fails
abbrev pub checks : List ℕ → List ℕ → Bool → List (Refusal × Bool)
checks line section covered =
    (MailLineTooLong, nat_lt 523 (length line))
    ∷ (MailLineForm, not (mail_form line))
    ∷ (UnknownOption, not (all is_known (options_of line)))
    ∷ (RepeatedOption, repeated (options_of line))
    ∷ (RequireTlsInClear, requires line && not covered)
    ∷ (RepeatedTlsRequired, well_formed section && (not (requires line) && nat_le 2 (length (tls_fields section))))
    ∷ (BadContent, not (well_formed section))
    ∷ []

-- the first check that fails gives the refusal
abbrev pub first_failing : {A : Type 0} → List (Refusal × Bool) → Result A Refusal → Result A Refusal
first_failing [] answer = answer
first_failing (c ∷ cs) answer = cond c.1 (Err c.0) (first_failing cs answer)

-- where no check fails, the option tags, and else the only field
abbrev pub tag_by : Bool → List (List ℕ) → Tag
tag_by true fs = Required
tag_by false [] = None
tag_by false (f ∷ fs) = field_tag f

abbrev pub tagged_mail : List ℕ → List ℕ → Bool → Result (Tag × List ℕ) Refusal
tagged_mail line section covered =
    first_failing (checks line section covered) (Ok (tag_by (requires line) (tls_fields section), path_of line))

-- what is held by the reader's answer
abbrev pub told : MailAnswer → Tag × List ℕ
told m = (m.0.tag, (said m.0.line).path)
