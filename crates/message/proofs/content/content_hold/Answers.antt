use Rattle.message.proofs.FormedLines.{content_holds}
use Rattle.message.proofs.content.content_hold.Goals as goal

pub returns : goal.returns
returns c = content_holds
