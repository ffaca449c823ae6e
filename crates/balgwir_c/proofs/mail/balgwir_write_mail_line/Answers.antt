use Rattle.std.proofs.Common.{Bool, ap, ◌∙◌, w32}
use Rattle.std.proofs.lemmas.Int.{to_z-of_z}
use Rattle.message.specs.MailLines.{buffer_after}
use Rattle.balgwir_c.specs.Numbers.{yes}
use Rattle.balgwir_c.proofs.mail.balgwir_write_mail_line.Goals as goal

pub returns-clause-buffer : goal.returns-clause-buffer
returns-clause-buffer c =
    let b = c.is_set.ensures ∙ ap yes (to_z-of_z w32 c.args.require_tls c.ranges.require_tls) in
    c.write_mail_line.ensures.buffer ∙ ap (λ (t : Bool). buffer_after c.args.path.now t c.args.out.now) b
