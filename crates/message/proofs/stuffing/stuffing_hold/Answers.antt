use Rattle.message.proofs.Unstuffed.{stuffing_holds}
use Rattle.message.proofs.stuffing.stuffing_hold.Goals as goal

pub returns : goal.returns
returns c = stuffing_holds
