use Rattle.std.proofs.Common.{ℕ, List, take, Err, ap, ◌∙◌}
use Rattle.std.proofs.lemmas.Result.{err_from_is_err_and}
use Rattle.message.specs.Lines.{lines_of}
use Rattle.message.specs.Tags.{fields, tls_required, tag_of}
use Rattle.message.proofs.Formed.{refused, accepted}
use Rattle.message.proofs.Headed.{header_take}
use Rattle.message.proofs.tag.Tag.read.Goals as goal

pub returns-in_err-check_content : goal.returns-in_err-check_content
returns-in_err-check_content c =
    let f = refused c.args.section.now _ c.in_err-check_content.ensures in
    let p = err_from_is_err_and c.from_residual.result c.from_residual.ensures.1 in
    simp f.0 (p.1 ∙ ap Err (p.2 ∙ f.1))

pub returns : goal.returns
returns c =
    let s = c.args.section.now in
    let a = accepted s _ c.in_ok-check_content.ensures in
    let h = c.upto.ensures.is ∙ (ap (λ (n : ℕ). take n s) c.header_len.ensures ∙ header_take s) in
    simp (a, c.if-require_tls.false) (c.header_tag.ensures ∙ ap (λ (t : List ℕ). tag_of (tls_required (fields (lines_of t)))) h)
