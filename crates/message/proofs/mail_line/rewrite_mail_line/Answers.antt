use Rattle.std.proofs.Common.{◌≡◌, true, length, Ok, Err, Result, ap, ◌∙◌}
use Rattle.std.proofs.lemmas.Result.{err_from_is_err_and}
use Rattle.smtp.specs.declared.refusal.Refusal.{Refusal}
use Rattle.message.specs.MailLines.{Mail, mail_line, writing, buffer_after}
use Rattle.message.specs.MailParts.{said}
use Rattle.message.specs.MailLinesHold.{again_in, again_after}
use Rattle.message.proofs.MailRounds.{ours_again}
use Rattle.message.proofs.mail_line.rewrite_mail_line.Goals as goal

pub returns-in_err-read : goal.returns-in_err-read
returns-in_err-read c =
    let line = c.args.line.now in
    let old = c.args.out.now in
    let (d, f, g) = err_from_is_err_and c.from_residual.result c.from_residual.ensures.1 in
    let h : Err d ≡ mail_line line true = ap Err g ∙ c.in_err-read.ensures in
    let a = f ∙ ap (λ (m : Result Mail Refusal). again_in m (length old)) h in
    let b = ap (λ (m : Result Mail Refusal). again_after m old) h in
    record { answer = a; buffer = b; same = ours_again line old old c.from_residual.result a b }

pub returns : goal.returns
returns c =
    let line = c.args.line.now in
    let old = c.args.out.now in
    let h : Ok (said c.in_ok-read.read) ≡ mail_line line true = c.in_ok-read.ensures in
    let p = c.path.ensures in
    let t = c.require_tls.ensures in
    let a = c.write_mail_line.ensures.answer ∙ (λ i. writing (p i) (t i) (length old)) ∙ ap (λ (m : Result Mail Refusal). again_in m (length old)) h in
    let b = c.write_mail_line.ensures.buffer ∙ (λ i. buffer_after (p i) (t i) old) ∙ ap (λ (m : Result Mail Refusal). again_after m old) h in
    record { answer = a; buffer = b; same = ours_again line old c.write_mail_line.new.out c.write_mail_line.result a b }
