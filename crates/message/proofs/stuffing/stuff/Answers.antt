use Rattle.std.proofs.Common.{Err, ap, ◌∙◌}
use Rattle.std.proofs.lemmas.Result.{err_from_is_err_and}
use Rattle.message.proofs.Formed.{refused}
use Rattle.message.proofs.stuffing.stuff.Goals as goal

pub returns-in_err-check_content : goal.returns-in_err-check_content
returns-in_err-check_content c =
    let f = refused c.args.content.now _ c.in_err-check_content.ensures in
    let p = err_from_is_err_and c.from_residual.result c.from_residual.ensures.1 in
    record { answer = simp f.0 (p.1 ∙ ap Err (p.2 ∙ f.1)); buffer = simp f.0 }
