-- What the other side of a line answers in a visit, by its rule.
use Rattle.std.specs.Prelude.{ℕ, Bool, true, length, Some, None, Option, ◌==◌}
use Rattle.line.specs.declared.record.Trust.{Trust}
use Rattle.line.specs.declared.visit.Visit.{Visit}
use Rattle.line.specs.Model.{Bytes, Rule}
use Rattle.line.specs.Calls.{fitting, fitting_names}
use Rattle.line.specs.Pieces.{pieces_of}

-- a reply above 4,096 is lost
abbrev pub reply_to : Rule → Visit → Option Bytes
reply_to rule v = fitting (rule.reply v.number v.name.now (pieces_of v.pieces.now))

-- a names text above 4,096 is lost
abbrev pub handshake_to : Rule → Visit → Option (Trust × Bytes)
handshake_to rule v = fitting_names (rule.handshake v.number v.name.now (pieces_of v.pieces.now))

-- the answer to a handshake, with the names text's length in its place
abbrev pub sized : Trust × Bytes → Trust × ℕ
sized h = (h.0, length h.1)

-- a note, where one is kept, is the number that it should be
abbrev pub kept : ℕ → Option ℕ → Bool
kept n None = true
kept n (Some k) = k == n
