-- What each call that C links answers, and what it leaves in the memory that it is lent.
use Rattle.std.specs.Prelude.{ℕ, Bool, false, cond, List, length, ℤ, pos, Ok, Err, Result}
use Rattle.std.specs.Result.{result_map_both}
use Rattle.smtp.specs.declared.refusal.Refusal.{Refusal}
use Rattle.smtp.specs.Keywords.{listed}
use Rattle.smtp.specs.Replies.{well_formed, reply_code}
use Rattle.message.specs.declared.tag.Tag.{Tag}
use Rattle.message.specs.MailLines.{Mail}
use Rattle.message.specs.TaggedMails.{tagged_mail as mail_read}
use Rattle.balgwir_c.specs.declared.mail.TaggedMail.{TaggedMail}
use Rattle.balgwir_c.specs.Numbers.{refusal_int, tag_int, bool_int}

-- what is told of a message: where the path lies in its MAIL line, and its tag
abbrev pub told : Mail × Tag → TaggedMail
told (mail, tag) = record { path_place = mail.place; path_len = length mail.path; tag = tag_int tag }

-- a MAIL line, which came covered by TLS or not, and a header section: the line's refusals, 1 to 5, come before the section's, 6 and 9
abbrev pub tagged_mail : List ℕ → Bool → List ℕ → Result TaggedMail Refusal
tagged_mail line covered section = result_map_both told (λ e. e) (mail_read line covered section)

-- a call answers 0, or the number by which it is refused
abbrev pub status : {A : Type 0} → Result A Refusal → ℤ
status (Ok x) = pos 0
status (Err e) = refusal_int e

-- and puts what it gives in the place of what was there, which stays where it is refused
abbrev pub out_after : {A : Type 0} → Result A Refusal → A → A
out_after (Ok x) old = x
out_after (Err e) old = old

-- the code of a reply, or 0 where it is malformed: no code is 0
abbrev pub code_int : List ℕ → ℤ
code_int reply = pos (cond (well_formed reply) (reply_code reply) 0)

-- whether a reply lists a word: a malformed one lists nothing
abbrev pub lists_int : List ℕ → List ℕ → ℤ
lists_int reply word = bool_int (cond (well_formed reply) (listed reply word) false)
