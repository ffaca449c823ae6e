use Rattle.std.proofs.Common.{◌≡◌, length}
use Rattle.voucher.specs.PolicyLines.{untrailed}
use Rattle.voucher.proofs.policy_lines.without_trailing.Given as goal

abbrev pub invariant-loop-s : goal.invariant-loop-s
invariant-loop-s l = untrailed l.s ≡ untrailed l.initial.s

abbrev pub decreases-loop-s : goal.decreases-loop-s
decreases-loop-s l = length l.s
