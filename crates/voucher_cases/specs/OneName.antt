-- The set of one name.
use Rattle.std.specs.Prelude.{ℕ, Bool, List}
use Rattle.smtp.specs.Bytes.{same}

abbrev pub one_name : List ℕ → List ℕ → Bool
one_name known name = same known name
