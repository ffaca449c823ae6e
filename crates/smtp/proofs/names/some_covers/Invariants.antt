use Rattle.std.proofs.Common.{◌≡◌, ◌+◌, ◌-◌, ◌<◌, ◌≤◌, false, length, drop}
use Rattle.smtp.proofs.Named.{sought, left}
use Rattle.smtp.proofs.names.some_covers.Given as goal

abbrev pub invariant-bytes : goal.invariant-bytes
invariant-bytes l =
    (l.found ≡ false) × (l.at ≤ l.i) × (l.i ≤ length l.text) × (l.k ≤ length l.host)
    × (left l.host l.same (drop l.k l.host) (drop l.i l.text) ≡ sought l.host l.text)

abbrev pub decreases-bytes : goal.decreases-bytes
decreases-bytes l = length l.text - l.i

abbrev pub invariant-names : goal.invariant-names
invariant-names l =
    (l.found ≡ false) × (l.at ≤ length l.text + 1)
    × (l.at ≤ length l.text → sought l.host (drop l.at l.text) ≡ sought l.host l.text)
    × (length l.text < l.at → sought l.host l.text ≡ false)

abbrev pub decreases-names : goal.decreases-names
decreases-names l = length l.text + 1 - l.at
