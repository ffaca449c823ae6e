use Rattle.message.proofs.Tags.{tags_hold}
use Rattle.message.proofs.tag.tags_hold.Goals as goal

pub returns : goal.returns
returns c = tags_hold
