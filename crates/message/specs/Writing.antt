-- What a writer has put into the buffer that it is lent.
use Rattle.std.specs.Prelude.{◌≡◌, ℕ, List, length}
use Rattle.message.specs.MailLines.{at_front}

-- so many bytes are written at the front of a buffer: a text, behind which lies what the buffer held when it was lent
abbrev pub Written : ℕ → List ℕ → List ℕ → List ℕ → Type 0
Written len out text lent = (len ≡ length text) × (out ≡ at_front text lent)
