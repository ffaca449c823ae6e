-- Examples of MAIL lines and what each gives: the form, the options, and the order of the refusals.
use Rattle.std.specs.Prelude.{◌≡◌, Bool, true, false, [], ◌++◌, replicate, Ok, Err, codes, Result}
use Prim.Native.String.{String}
use Rattle.smtp.specs.declared.refusal.Refusal.{Refusal}
use Rattle.smtp.specs.declared.refusal.Refusal.TheVariants.{MailLineTooLong, MailLineForm, UnknownOption, RepeatedOption, RequireTlsInClear, BadAddress, ShortBuffer}
use Rattle.message.specs.MailLines.{crlf, mail_from, Mail, mail_line, written, writing}

-- a text with CRLF, read as a line that came covered, or in the clear
abbrev covered : String → Result Mail Refusal
covered text = mail_line (codes text ++ crlf) true

abbrev clear : String → Result Mail Refusal
clear text = mail_line (codes text ++ crlf) false

abbrev says : String → Bool → Result Mail Refusal
says path require_tls = Ok (record { path = codes path; place = 11; require_tls = require_tls })

pub record MailLinesShown : Type 0 where
  -- words in any letter case, the empty path, the options
  pub plain : clear "MAIL FROM:<a@b.example>" ≡ says "a@b.example" false
  pub empty : clear "mail From:<>" ≡ says "" false
  pub option : covered "MAIL FROM:<roger@example.org> REQUIRETLS" ≡ says "roger@example.org" true
  pub others : covered "MAIL FROM:<a@b.example> ret=hdrs Size=0 RequireTLS" ≡ says "a@b.example" true
  pub longest : clear "MAIL FROM:<> SIZE=12345678901234567890" ≡ says "" false
  -- broken forms
  pub blanks : clear "MAIL FROM:<>  RET=FULL" ≡ Err MailLineForm
  pub ending : clear "MAIL FROM:<> " ≡ Err MailLineForm
  pub behind : clear "MAIL FROM:<>RET=FULL" ≡ Err MailLineForm
  pub path : clear "MAIL FROM:<a>" ≡ Err MailLineForm
  pub bare : mail_line (codes "MAIL FROM:<>") false ≡ Err MailLineForm
  -- options and values that are not known
  pub value : covered "MAIL FROM:<> REQUIRETLS=x" ≡ Err UnknownOption
  pub none : clear "MAIL FROM:<> SIZE=" ≡ Err UnknownOption
  pub above : clear "MAIL FROM:<> SIZE=123456789012345678901" ≡ Err UnknownOption
  pub other : clear "MAIL FROM:<> RET=" ≡ Err UnknownOption
  -- the order of the refusals
  pub twice : clear "MAIL FROM:<> RET=FULL RET=HDRS" ≡ Err RepeatedOption
  pub later : clear "MAIL FROM:<> RET=FULL RET=HDRS BODY=7BIT" ≡ Err UnknownOption
  pub in_clear : clear "MAIL FROM:<> REQUIRETLS" ≡ Err RequireTlsInClear
  pub twice_in_clear : clear "MAIL FROM:<> REQUIRETLS REQUIRETLS" ≡ Err RepeatedOption
  pub form_first : clear "MAIL FROM:<a> REQUIRETLS X X" ≡ Err MailLineForm
  pub long : mail_line (mail_from ++ (replicate 511 120 ++ crlf)) true ≡ Err MailLineTooLong
  pub garbled : mail_line (mail_from ++ (replicate 510 120 ++ crlf)) true ≡ Err MailLineForm
  -- lines that we write
  pub ours : written (codes "a@b.example") true ≡ codes "MAIL FROM:<a@b.example> REQUIRETLS" ++ crlf
  pub ours_plain : written [] false ≡ codes "MAIL FROM:<>" ++ crlf
  pub length36 : writing (codes "a@b.example") true 523 ≡ Ok 36
  pub ill_first : writing (codes "a") true 0 ≡ Err BadAddress
  pub short : writing [] true 522 ≡ Err ShortBuffer
