use Rattle.std.proofs.Common.{◌∙◌, not, ap, drop, rules, tests}
use Rattle.std.proofs.lemmas.Iterator.{YieldsList-from_slice}
use Rattle.std.proofs.lemmas.Iterator.Search.{position_from_yields_List}
use Rattle.message.specs.Tags.{white}
use Rattle.message.proofs.Tags.{behind_at}
use Rattle.message.proofs.tag.behind_white.Goals as goal

pub returns : goal.returns
returns c =
    let s = c.args.s.now in
    c.from.ensures.is ∙ ap (λ n. drop n s) c.unwrap_or-n.ensures ∙ behind_at s c.position.result (position_from_yields_List (λ x. not (white x)) _ _ c.position.result c.position.ensures.ran (YieldsList-from_slice s cc) (λ x b q k. search (rules, tests)))
