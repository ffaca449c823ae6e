-- What a MAIL line and the header section that belongs to it say of a message: what the line says, and the tag by both.
use Rattle.std.specs.Prelude.{ℕ, Bool, List, Ok, Err, Result}
use Rattle.std.specs.Result.{result_map_both}
use Rattle.smtp.specs.declared.refusal.Refusal.{Refusal}
use Rattle.message.specs.declared.tag.Tag.{Tag}
use Rattle.message.specs.declared.tagged.TaggedMail.{TaggedMail}
use Rattle.message.specs.MailLines.{Mail, mail_line}
use Rattle.message.specs.MailParts.{said}
use Rattle.message.specs.Tags.{tagged}

-- behind a MAIL line that is refused the section is not read
abbrev pub behind_line : Result Mail Refusal → List ℕ → Result (Mail × Tag) Refusal
behind_line (Ok mail) section = result_map_both (λ tag. (mail, tag)) (λ e. e) (tagged mail.require_tls section)
behind_line (Err e) section = Err e

-- a MAIL line, which came covered by TLS or not, and a header section: the line's refusals, 1 to 5, come before the section's, 6 and 9
abbrev pub tagged_mail : List ℕ → Bool → List ℕ → Result (Mail × Tag) Refusal
tagged_mail line covered section = behind_line (mail_line line covered) section

-- what a message that was read says
abbrev pub told : TaggedMail → Mail × Tag
told mail = (said mail.line, mail.tag)
