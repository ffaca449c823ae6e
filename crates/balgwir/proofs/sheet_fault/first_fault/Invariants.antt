use Rattle.std.proofs.Common.{◌≡◌, drop}
use Rattle.line.specs.Entries.{left}
use Rattle.balgwir.proofs.Fronts.{Front}
use Rattle.balgwir.proofs.sheet_fault.first_fault.Given as goal

-- the front is a sheet of the records that were counted, and the records that are left decide
abbrev pub invariant-loop-entry : goal.invariant-loop-entry
invariant-loop-entry l =
    (goal.iterator-loop-entry).can_next l.entry-iterator
    × (goal.iterator-loop-entry).is_finite l.entry-iterator
    × Front l.sheet l.number l.place l.least
    × (left l.entry-iterator ≡ drop l.place l.sheet)
