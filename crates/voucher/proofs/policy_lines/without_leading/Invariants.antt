use Rattle.std.proofs.Common.{◌≡◌, length}
use Rattle.voucher.specs.PolicyLines.{unled}
use Rattle.voucher.proofs.policy_lines.without_leading.Given as goal

abbrev pub invariant-loop-s : goal.invariant-loop-s
invariant-loop-s l = unled l.s ≡ unled l.initial.s

abbrev pub decreases-loop-s : goal.decreases-loop-s
decreases-loop-s l = length l.s
