use Rattle.smtp.proofs.Spelled.{replies_hold}
use Rattle.smtp.proofs.reply.replies_hold.Goals as goal

pub returns : goal.returns
returns c = replies_hold
