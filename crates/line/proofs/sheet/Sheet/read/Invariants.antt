use Rattle.std.proofs.Common.{◌≡◌, length}
use Rattle.line.specs.Entries.{left, records_left}
use Rattle.line.specs.Sheet.{sheet_from, sheet_form}
use Rattle.line.proofs.sheet.Sheet.read.Given as goal

-- what is left decides
abbrev pub invariant-loop-entry : goal.invariant-loop-entry
invariant-loop-entry l = sheet_from l.least (left l.entries) ≡ sheet_form l.bytes

abbrev pub decreases-loop-entry : goal.decreases-loop-entry
decreases-loop-entry l = length (records_left l.entries)
