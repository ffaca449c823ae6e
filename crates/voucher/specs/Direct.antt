-- The set of a direct voucher: the domain alone, where it has no MX record.
use Rattle.std.specs.Prelude.{ℕ, Bool, not, ◌&&◌, List}
use Rattle.smtp.specs.Bytes.{same}

abbrev pub direct_set : List ℕ → Bool → List ℕ → Bool
direct_set domain mx name = not mx && same domain name
