-- The set of a signed list: all names if its DNSSEC mark is set, and none otherwise.
use Rattle.std.specs.Prelude.{ℕ, Bool, List}

abbrev pub signed_set : Bool → List ℕ → Bool
signed_set signed name = signed
