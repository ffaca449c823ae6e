use Rattle.balgwir_c.proofs.CallsTold.{calls_hold}
use Rattle.balgwir_c.proofs.calls_hold.Goals as goal

pub returns : goal.returns
returns c = calls_hold
