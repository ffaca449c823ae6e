use Rattle.std.proofs.Common.{◌≡◌, length}
use Rattle.smtp.specs.Replies.{is_last, reply_code}
use Rattle.smtp.proofs.Reading.{Decides}
use Rattle.smtp.proofs.reply.Reply.read.Given as goal

abbrev pub invariant-loop-first : goal.invariant-loop-first
invariant-loop-first l = (l.first.code ≡ reply_code l.bytes) × Decides l.bytes (is_last l.line.separator) l.first.code l.rest

-- what is left falls with each line
abbrev pub decreases-loop-first : goal.decreases-loop-first
decreases-loop-first l = length l.rest
