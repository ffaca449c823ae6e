-- What a voucher's answer to a name is, by its set of names.
use Rattle.std.specs.Prelude.{ℕ, Bool, ◌&&◌, List, map}
use Rattle.smtp.specs.Bytes.{lowered}
use Rattle.smtp.specs.Names.{host_name}

-- a name in small letters
abbrev pub lower : List ℕ → List ℕ
lower name = map lowered name

-- a set of names is asked for a name in small letters, so that it can't tell letter case apart; what is no host name is in no set
abbrev pub holds : (List ℕ → Bool) → List ℕ → Bool
holds set name = host_name name && set (lower name)
