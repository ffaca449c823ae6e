-- A line that keeps its transcript in lent bytes: what it means, by the bytes written and where it stands in them.
use Rattle.std.specs.Prelude.{ℕ, ◌+◌, ◌-◌, ◌*◌, min, Bool, true, false, cond, not, ◌&&◌, List, take, drop, Some, None, Option, ◌==◌, nat_le}
use Rattle.line.specs.declared.record.Letter.{Letter}
use Rattle.line.specs.declared.record.Letter.TheVariants as letter
use Rattle.line.specs.declared.record.Trust.{Trust}
use Rattle.line.specs.declared.line.Standing.{Standing}
use Rattle.line.specs.declared.line.Standing.TheVariants.{Closed, Clear, Covered}
use Rattle.line.specs.declared.state.State.{State}
use Rattle.line.specs.Model.{Bytes, Piece, Rule, Connection, closed, opened, Meaning}
use Rattle.line.specs.Calls.{tight, fitting, fitting_names}
use Rattle.line.specs.Layout.{records, whole}
use Rattle.line.specs.Sheet.{clear_count, covered_count}
use Rattle.line.specs.Pieces.{pieces_of}

abbrev pub is_closed : Standing → Bool
is_closed Closed = true
is_closed Clear = false
is_closed Covered = false

abbrev pub is_clear : Standing → Bool
is_clear Closed = false
is_clear Clear = true
is_clear Covered = false

abbrev pub is_covered : Standing → Bool
is_covered Closed = false
is_covered Clear = false
is_covered Covered = true

-- the letter of a piece that is put now
abbrev pub piece_letter : Standing → Letter
piece_letter Closed = letter.Clear
piece_letter Clear = letter.Clear
piece_letter Covered = letter.Covered

-- the name and the pieces of the visit, in the bytes written
abbrev pub name_in : Bytes → State → Bytes
name_in text st = take st.long (drop st.at text)

abbrev pub pieces_in : Bytes → State → List Piece
pieces_in text st = pieces_of (drop st.start text)

abbrev pub standing_of : Standing → Bytes → List Piece → Connection
standing_of Closed name ps = closed
standing_of Clear name ps = opened false name ps
standing_of Covered name ps = opened true name ps

-- What the line means: `text` is what it has written, and `total` the size of the lent bytes, of which the first 1,000,000 serve.
abbrev pub sense : Rule → Bytes → ℕ → State → Meaning
sense rule text total st = record {
  standing = standing_of st.standing (name_in text st) (pieces_in text st);
  visit = st.visit;
  due = st.due;
  transcript = records text;
  room = min 1000000 total - st.used;
  rule = rule;
}

-- a closed line has no reply due
abbrev pub calm : Standing → Bool → Bool
calm Closed due = not due
calm Clear due = true
calm Covered due = true

-- What holds of the bytes written and the numbers kept: whole records, the visit's among them, and the counts of its pieces.
unfoldable pub sound : Bytes → State → Bool
sound text st =
    nat_le st.start st.used
    && (nat_le (st.at + st.long) st.start
    && (nat_le (14 * st.visit) st.used
    && (nat_le (12 * (st.clear + st.covered)) st.used
    && (whole text
    && (whole (drop st.start text)
    && (st.clear == clear_count (pieces_in text st)
    && (st.covered == covered_count (pieces_in text st)
    && calm st.standing st.due)))))))

-- the state of a line that has written nothing
abbrev pub fresh_state : State
fresh_state = record { used = 0; visit = 0; start = 0; at = 0; long = 0; clear = 0; covered = 0; standing = Closed; due = false }

-- the state once a name of n bytes is opened, or a piece of n bytes is put
abbrev pub opened_state : State → ℕ → State
opened_state st n = record {
  used = st.used + (12 + (n + 2));
  visit = st.visit + 1;
  start = st.used + (12 + (n + 2));
  at = st.used + 12;
  long = n;
  clear = 0;
  covered = 0;
  standing = Clear;
  due = true;
}

abbrev pub put_state : State → ℕ → State
put_state st n = record {
  used = st.used + (12 + n);
  visit = st.visit;
  start = st.start;
  at = st.at;
  long = st.long;
  clear = cond (is_covered st.standing) st.clear (st.clear + 1);
  covered = cond (is_covered st.standing) (st.covered + 1) st.covered;
  standing = st.standing;
  due = true;
}

-- the state with no reply due, standing so
abbrev pub quiet_state : State → Standing → State
quiet_state st standing = record {
  used = st.used;
  visit = st.visit;
  start = st.start;
  at = st.at;
  long = st.long;
  clear = st.clear;
  covered = st.covered;
  standing = standing;
  due = false;
}

-- standing so where an answer came, else closed
abbrev pub standing_if : Bool → Standing → Standing
standing_if came standing = cond came standing Closed

-- the state once a record of n bytes is written, if there is room for it in lent bytes of such a size
abbrev pub if_fits : ℕ → State → ℕ → State → Option State
if_fits total st n after = cond (tight (min 1000000 total - st.used) n) None (Some after)

-- the reply that waits, if it is due, and the answer to a handshake, each if it is not lost
abbrev pub waiting_in : Rule → Bytes → State → Option Bytes
waiting_in rule text st = cond st.due (fitting (rule.reply st.visit (name_in text st) (pieces_in text st))) None

abbrev pub shaken_in : Rule → Bytes → State → Option (Trust × Bytes)
shaken_in rule text st = fitting_names (rule.handshake st.visit (name_in text st) (pieces_in text st))
