-- The pieces put in a visit, read off their records.
use Rattle.std.specs.Prelude.{Bool, true, false, List, map}
use Rattle.line.specs.declared.record.Letter.{Letter}
use Rattle.line.specs.declared.record.Letter.TheVariants as letter
use Rattle.line.specs.Model.{Bytes, Record, Piece}
use Rattle.line.specs.Layout.{records}

abbrev pub was_covered : Letter → Bool
was_covered letter.Opened = false
was_covered letter.Clear = false
was_covered letter.Covered = true
was_covered letter.Reply = false
was_covered letter.Handshake = false

abbrev pub piece_of : Record → Piece
piece_of r = record { covered = was_covered r.letter; bytes = r.bytes }

abbrev pub pieces_of : Bytes → List Piece
pieces_of text = map piece_of (records text)
