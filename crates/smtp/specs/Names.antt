-- Host names, the patterns that cover them, and mail addresses (RFC 5321 section 4.1.2, RFC 6125 section 6.4.3).
use Rattle.std.specs.Prelude.{ℕ, Bool, false, ◌&&◌, ◌||◌, List, [], ◌∷◌, length, ◌==◌, nat_le}
use Rattle.smtp.specs.Bytes.{within, letter, digit, same, all, some}
use Rattle.smtp.specs.Parts.{first_part, parts, from_first, behind_first}

-- a byte of a host name's label: a letter, a digit or a hyphen
abbrev pub label_byte : ℕ → Bool
label_byte x = letter x || (digit x || x == 45)

-- a byte of an atom: a letter, a digit or one of ! # $ % & ' * + - / = ? ^ _ ` { | } ~
abbrev pub atom_byte : ℕ → Bool
atom_byte x = letter x || (digit x || (x == 33 || (within 35 x 39 || (within 42 x 43 || (x == 45 || (x == 47 || (x == 61 || (x == 63 || (within 94 x 96 || within 123 x 126)))))))))

-- 1 to `most` bytes of one kind
abbrev pub word : (ℕ → Bool) → ℕ → List ℕ → Bool
word kind most p = within 1 (length p) most && all kind p

-- such words, joined by dots
abbrev pub dotted : (ℕ → Bool) → ℕ → List ℕ → Bool
dotted kind most s = all (word kind most) (parts 46 s)

-- a host name: labels of 1 to 63 letters, digits and hyphens, joined by dots, at most 253 bytes
abbrev pub host_name : List ℕ → Bool
host_name s = nat_le (length s) 253 && dotted label_byte 63 s

-- an address: a dot-string of 1 to 64 bytes, an at sign, a host name
abbrev pub address : List ℕ → Bool
address s = nat_le (length (first_part 64 s)) 64 && (dotted atom_byte 64 (first_part 64 s) && host_name (behind_first 64 s))

-- a pattern that begins with `*.` stands for one label: what is behind its star is the name from its first dot on
abbrev pub wild : List ℕ → List ℕ → Bool
wild [] name = false
wild (x ∷ []) name = false
wild (x ∷ (y ∷ rest)) name = x == 42 && (y == 46 && same (y ∷ rest) (from_first 46 name))

-- a pattern that equals a name, or whose star stands for the name's first label
abbrev pub covered : List ℕ → List ℕ → Bool
covered pattern name = same pattern name || wild pattern name

-- what a pattern covers is a host name
abbrev pub covers_name : List ℕ → List ℕ → Bool
covers_name pattern name = host_name name && covered pattern name

-- one of the names or patterns in a text, parted by single blanks, covers the host
abbrev pub names_cover : List ℕ → List ℕ → Bool
names_cover text host = some (λ pattern. covers_name pattern host) (parts 32 text)
