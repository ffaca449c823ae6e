use Rattle.std.proofs.Common.{◌≡◌, Ok, Err, sym, ap, ◌∙◌, arith}
use Rattle.std.specs.Option.{option_map, ok_or}
use Rattle.std.specs.Result.{result_map_both}
use Rattle.std.proofs.lemmas.Result.{err_from_is_err_and}
use Rattle.smtp.specs.declared.refusal.Refusal.TheVariants.{MailLineForm}
use Rattle.message.specs.MailParts.{said, cut}
use Rattle.message.proofs.MailReading.{no_command, no_path, by_ok, by_err}
use Rattle.message.proofs.mail_line.MailLine.read.Goals as goal

pub returns-in_err-command : goal.returns-in_err-command
returns-in_err-command c =
    let (d, f, g) = err_from_is_err_and c.from_residual.result c.from_residual.ensures.1 in
    let v = c.in_err-command.ensures.value ∙ ap (λ o. ok_or o MailLineForm) c.in_err-command.ensures.ok_part in
    let h : c.in_err-command.field-0.0 ≡ MailLineForm = cc in
    ap (result_map_both said (λ x. x)) f ∙ ap Err (g ∙ h) ∙ no_command c.args.line.now c.args.covered (omega arith) (sym (ap (option_map cut) c.in_err-command.ensures.ok_part) ∙ c.read.ensures)

pub returns-then-not-is_path : goal.returns-then-not-is_path
returns-then-not-is_path c =
    no_path c.args.line.now c.in_ok-command.command.path.now c.in_ok-command.command.tail.now c.args.covered (omega arith)
    (sym (ap (option_map cut) c.in_ok-command.ensures.ok_part) ∙ c.read.ensures) (sym c.if-not-is_path.ensures)

pub returns-in_err-check : goal.returns-in_err-check
returns-in_err-check c =
    let (d, f, g) = err_from_is_err_and c.from_residual-in_err-check.result c.from_residual-in_err-check.ensures.1 in
    let e = by_err c.args.line.now c.in_ok-command.command.path.now c.in_ok-command.command.tail.now c.read-options.result c.args.covered d (omega arith)
    (sym (ap (option_map cut) c.in_ok-command.ensures.ok_part) ∙ c.read.ensures)
    (sym c.if-not-is_path.ensures) c.read-options.ensures (sym c.check.ensures ∙ c.in_err-check.was ∙ ap Err (sym g)) in
    ap (result_map_both said (λ x. x)) f ∙ e

pub returns : goal.returns
returns c =
    let path = c.in_ok-command.command.path.now in
    ap (λ t. Ok (record { path = path; place = 11; require_tls = t })) c.is_seen.ensures
    ∙ by_ok c.args.line.now path c.in_ok-command.command.tail.now c.read-options.result c.args.covered (omega arith)
    (sym (ap (option_map cut) c.in_ok-command.ensures.ok_part) ∙ c.read.ensures) (sym c.if-not-is_path.ensures) c.read-options.ensures
    (sym c.check.ensures ∙ c.in_ok-check.was)
