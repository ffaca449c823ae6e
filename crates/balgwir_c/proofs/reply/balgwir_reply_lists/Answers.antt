use Rattle.std.proofs.Common.{ap, ◌∙◌, w32, SFits, rules}
use Rattle.std.proofs.lemmas.Int.{to_z-of_z}
use Rattle.smtp.specs.Read.{held}
use Rattle.balgwir_c.specs.Numbers.{bool_int}
use Rattle.balgwir_c.proofs.ReplyTold.{lists_some}
use Rattle.balgwir_c.proofs.reply.balgwir_reply_lists.Goals as goal

pub returns-in-Some : goal.returns-in-Some
returns-in-Some c =
    let f : SFits w32 c.from.result = search rules in
    to_z-of_z w32 c.from.result f
    ∙ (c.from.ensures ∙ (ap bool_int c.lists.ensures ∙ lists_some c.args.reply.now c.args.word.now (held c.in-Some.read) c.in-Some.ensures))
