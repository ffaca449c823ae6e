-- Read one after the other, the line and the section pass the checks in the order of their numbers.
use Rattle.std.proofs.Common.{◌≡◌, Bool, ap, ◌∙◌, rules}
use Rattle.std.specs.Result.{result_map_both as answered}
use Rattle.smtp.specs.declared.refusal.Refusal.{Refusal}
use Rattle.message.specs.TaggedMails.{tagged_mail as read_in_turn}
use Rattle.balgwir.specs.Mail.{told}
use Rattle.balgwir.specs.Words.{is_covered}
use Rattle.balgwir.proofs.Checks.{tag_and_path, in_order}
use Rattle.balgwir.proofs.tag_report.MailAnswer.of.Goals as goal

pub returns-in_err-mail : goal.returns-in_err-mail
returns-in_err-mail c =
    let b : c.eq.result ≡ is_covered c.args.coverage = search rules in
    let e : answered {E = Refusal} {D = Refusal} told (λ e. e) c.from_residual.result ≡ tag_and_path (read_in_turn c.args.line.now c.eq.result c.args.section.now) = search rules in
    e ∙ (ap (λ (t : Bool). tag_and_path (read_in_turn c.args.line.now t c.args.section.now)) b ∙ in_order c.args.line.now c.args.section.now (is_covered c.args.coverage))

pub returns : goal.returns
returns c =
    let b : c.eq.result ≡ is_covered c.args.coverage = search rules in
    let e = ap tag_and_path c.in_ok-mail.ensures in
    e ∙ (ap (λ (t : Bool). tag_and_path (read_in_turn c.args.line.now t c.args.section.now)) b ∙ in_order c.args.line.now c.args.section.now (is_covered c.args.coverage))
