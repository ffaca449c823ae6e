-- The numbers that go between C and the library: flags, refusals and tags.
use Rattle.std.specs.Prelude.{Bool, true, not, ℤ, pos, negsuc, ◌==◌}
use Rattle.std.specs.Int.{from_bool}
use Rattle.smtp.specs.declared.refusal.Refusal.{Refusal}
use Rattle.smtp.specs.Refusals.{number_of}
use Rattle.message.specs.declared.tag.Tag.{Tag}
use Rattle.message.specs.declared.tag.Tag.TheVariants.{Required, No, None}

-- a flag says yes by any number but 0
abbrev pub yes : ℤ → Bool
yes (pos n) = not (n == 0)
yes (negsuc n) = true

-- a refusal is its number
abbrev pub refusal_int : Refusal → ℤ
refusal_int e = pos (number_of e)

-- a tag is 1, 2 or 3: no tag is 0
abbrev pub tag_int : Tag → ℤ
tag_int Required = pos 1
tag_int No = pos 2
tag_int None = pos 3

-- a yes is 1, and a no is 0
abbrev pub bool_int : Bool → ℤ
bool_int b = pos (from_bool b)
