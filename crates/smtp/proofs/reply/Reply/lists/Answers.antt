use Rattle.std.proofs.Common.{◌≡◌, ℕ, List, Option, ◌∷◌, sym, ap, ◌∙◌, rules, tests}
use Rattle.std.specs.Option.{option_map}
use Rattle.std.proofs.lemmas.Iterator.{YieldsList}
use Rattle.std.proofs.lemmas.Iterator.Consumers.{YieldsList-from_shown}
use Rattle.std.proofs.lemmas.Iterator.Search.{any_from_yields_List}
use Rattle.smtp.specs.declared.reply.ReplyLines.{ReplyLines}
use Rattle.smtp.specs.declared.reply_line.ReplyLine.{ReplyLine}
use Rattle.smtp.specs.Bytes.{some}
use Rattle.smtp.specs.Keywords.{lists_part, seen, part_at, next_at}
use Rattle.smtp.proofs.Listing.{parts_at, none_left, one_more, parts_list}
use Rattle.smtp.proofs.reply.Reply.lists.Goals as goal

-- one line handed out
abbrev Steps : ReplyLines → Option ReplyLine → ReplyLines → Type 0
Steps s r t = (option_map seen r ≡ part_at s.bytes.now s.at) × (t.at ≡ next_at s.bytes.now s.at) × (t.bytes.now ≡ s.bytes.now)

handed_out : (lines : ReplyLines) → YieldsList Steps seen lines (parts_at lines.bytes.now lines.at)
handed_out lines =
    YieldsList-from_shown Steps seen (λ (s : ReplyLines). parts_at s.bytes.now s.at)
    (λ s t e. none_left s.bytes.now s.at e.0)
    (λ s x t e. one_more s.bytes.now s.at t.at (seen x) e.0 e.1 ∙ ap (λ (b : List ℕ). seen x ∷ parts_at b t.at) (sym e.2))
    lines

pub returns : goal.returns
returns c =
    let word = c.args.word.now in
    let lines = c.lines.result in
    any_from_yields_List (lists_part word) c.any.new.self _ c.any.result c.any.ensures.ran (handed_out lines) (λ x b q k. search (rules, tests))
    ∙ ap (λ (b : List ℕ). some (lists_part word) (parts_at b lines.at)) c.lines.ensures.bytes
    ∙ ap (λ (n : ℕ). some (lists_part word) (parts_at c.args.self.now.bytes.now n)) c.lines.ensures.at
    ∙ parts_list c.args.self.now.bytes.now word
