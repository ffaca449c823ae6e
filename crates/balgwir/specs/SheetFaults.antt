-- The first fault of a sheet: which record breaks the sheet's form, where it stands, and why.
use Rattle.std.specs.Prelude.{◌≡◌, ℕ, suc, ◌<◌, true, false, cond, List, [], ◌∷◌, length, take, drop, is_some, Some, None, Option, nat_lt}
use Rattle.line.specs.declared.record.Letter.{Letter}
use Rattle.line.specs.declared.record.Letter.TheVariants.{Opened, Clear, Covered, Reply, Handshake}
use Rattle.line.specs.Model.{Bytes, Record}
use Rattle.line.specs.Layout.{record_at, records}
use Rattle.line.specs.Sheet.{handshake_of, sheet_form}
use Rattle.balgwir.specs.declared.sheet_fault.Fault.{Fault}
use Rattle.balgwir.specs.declared.sheet_fault.Fault.TheVariants as fault
use Rattle.balgwir.specs.declared.sheet_fault.SheetFault.{SheetFault}

-- what is wrong with a record of such a letter and such bytes: on a sheet stand replies and the answers to handshakes
abbrev pub letter_fault : Letter → Bytes → Option Fault
letter_fault Opened bytes = Some fault.Letter
letter_fault Clear bytes = Some fault.Letter
letter_fault Covered bytes = Some fault.Letter
letter_fault Reply bytes = None
letter_fault Handshake bytes = cond (is_some (handshake_of bytes)) None (Some fault.Handshake)

-- what is wrong with a record whose visit number may not be below the least
abbrev pub record_fault : ℕ → Record → Option Fault
record_fault least r = cond (nat_lt r.visit least) (Some fault.Visit) (letter_fault r.letter r.bytes)

-- what is wrong at a place where a record should stand
abbrev pub fault_in : ℕ → Option Record → Option Fault
fault_in least None = Some fault.Layout
fault_in least (Some r) = record_fault least r

-- the least visit number behind records: that of the last of them, and behind none the one given
abbrev pub least_from : ℕ → List Record → ℕ
least_from least [] = least
least_from least (r ∷ rs) = least_from r.visit rs

-- A fault is the first of a sheet: what stands before its place is a sheet in its form, of one record fewer than its number
-- says, and at its place is wrong what it says. So the whole breaks its form.
pub record First (s : Bytes) (f : SheetFault) : Type 0 where
  pub within : f.place < length s
  pub before : sheet_form (take f.place s) ≡ true
  pub counted : f.number ≡ suc (length (records (take f.place s)))
  pub there : fault_in (least_from 1 (records (take f.place s))) (record_at (drop f.place s)) ≡ Some f.why
  pub breaks : sheet_form s ≡ false

-- none exactly where the sheet has its form
abbrev pub FirstFault : Bytes → Option SheetFault → Type 0
FirstFault s None = sheet_form s ≡ true
FirstFault s (Some f) = First s f
