-- A MAIL line that is read first, and then a section, pass the checks over both in the order of their numbers.
use Rattle.std.proofs.Common.{◌≡◌, ℕ, Bool, true, false, cond, not, ◌&&◌, ltb, leb, List, [], ◌∷◌, length, Ok, Err, Result, refl, arith}
use Rattle.std.specs.Result.{result_map_both}
use Rattle.std.proofs.lemmas.Bool.{le-leb}
use Rattle.smtp.specs.declared.refusal.Refusal.{Refusal}
use Rattle.smtp.specs.declared.refusal.Refusal.TheVariants.{MailLineTooLong, MailLineForm, UnknownOption, RepeatedOption, RequireTlsInClear, RepeatedTlsRequired, BadContent}
use Rattle.smtp.specs.Bytes.{all}
use Rattle.message.specs.declared.tag.Tag.{Tag}
use Rattle.message.specs.declared.tag.Tag.TheVariants.{Required}
use Rattle.message.specs.Content.{well_formed}
use Rattle.message.specs.MailLines.{Mail, mail_form, is_known, repeated, options_of, mail_of}
use Rattle.message.specs.Tags.{tag_of}
use Rattle.message.specs.TaggedMails.{behind_line}
use Rattle.message.specs.TaggedMails.{tagged_mail as read_in_turn}
use Rattle.balgwir.specs.Mail.{requires, tls_fields, tag_by, tagged_mail}

-- the tag and the path, one after the other
abbrev pub tag_and_path : Result (Mail × Tag) Refusal → Result (Tag × List ℕ) Refusal
tag_and_path r = result_map_both (λ m. (m.1, m.0.path)) (λ e. e) r

abbrev in_turn : Result Mail Refusal → List ℕ → Result (Tag × List ℕ) Refusal
in_turn r section = tag_and_path (behind_line r section)

line_checks : (long form known twice clear : Bool) (mail : Mail) (section : List ℕ) (rest : Result (Tag × List ℕ) Refusal) → in_turn (Ok mail) section ≡ rest
    → in_turn (cond long (Err MailLineTooLong) (cond form (Err MailLineForm) (cond known (Err UnknownOption) (cond twice (Err RepeatedOption) (cond clear (Err RequireTlsInClear) (Ok mail)))))) section
    ≡ cond long (Err MailLineTooLong) (cond form (Err MailLineForm) (cond known (Err UnknownOption) (cond twice (Err RepeatedOption) (cond clear (Err RequireTlsInClear) rest))))
line_checks true form known twice clear mail section rest e = refl
line_checks false true known twice clear mail section rest e = refl
line_checks false false true twice clear mail section rest e = refl
line_checks false false false true clear mail section rest e = refl
line_checks false false false false true mail section rest e = refl
line_checks false false false false false mail section rest e = e

section_checks : (mail : Mail) (right option : Bool) (fs : List (List ℕ))
    → tag_and_path (result_map_both (λ tag. (mail, tag)) (λ e. e) (cond right (cond option (Ok Required) (tag_of fs)) (Err BadContent)))
    ≡ cond (right && (not option && leb 2 (length fs))) (Err RepeatedTlsRequired) (cond (not right) (Err BadContent) (Ok (tag_by option fs, mail.path)))
section_checks mail false option fs = refl
section_checks mail true true fs = refl
section_checks mail true false [] = refl
section_checks mail true false (f ∷ []) = refl
section_checks mail true false (f ∷ g ∷ fs) =
    let e : leb 2 (length (f ∷ g ∷ fs)) ≡ true = le-leb 2 (length (f ∷ g ∷ fs)) (omega arith) in rw e

pub in_order : (line section : List ℕ) (covered : Bool) → tag_and_path (read_in_turn line covered section) ≡ tagged_mail line section covered
in_order line section covered =
    line_checks (ltb 523 (length line)) (not (mail_form line)) (not (all is_known (options_of line))) (repeated (options_of line)) (requires line && not covered) (mail_of line) section _
    (section_checks (mail_of line) (well_formed section) (requires line) (tls_fields section))
