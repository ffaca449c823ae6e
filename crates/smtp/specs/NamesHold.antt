-- What the definitions of parts, words, host names and patterns come to.
use Rattle.std.specs.Prelude.{◌≡◌, ℕ, ◌≤◌, Bool, true, not, ◌⊎◌, List, [], ◌∷◌, ◌++◌, map, length, Decides, ◌==◌}
use Rattle.smtp.specs.Bytes.{lowered, same, all}
use Rattle.smtp.specs.Parts.{parts}
use Rattle.smtp.specs.Names.{label_byte, word, host_name, covers_name}

-- parts, each behind a separator
abbrev pub led : ℕ → List (List ℕ) → List ℕ
led sep [] = []
led sep (p ∷ ps) = sep ∷ (p ++ led sep ps)

-- parts with the separator between them
abbrev pub joined : ℕ → List (List ℕ) → List ℕ
joined sep [] = []
joined sep (p ∷ ps) = p ++ led sep ps

-- a part that does not hold the separator
abbrev pub lacks : ℕ → List ℕ → Bool
lacks sep p = all (λ x. not (x == sep)) p

-- a host name's label: 1 to 63 letters, digits and hyphens
abbrev pub label : List ℕ → Bool
label p = word label_byte 63 p

-- a text's parts, joined again, are the text, and none of them holds the separator
abbrev pub PartsJoin : Type 0
PartsJoin = (sep : ℕ) (s : List ℕ) → (joined sep (parts sep s) ≡ s) × (all (lacks sep) (parts sep s) ≡ true)

-- no other parts without the separator give that text
abbrev pub PartsOnly : Type 0
PartsOnly = (sep : ℕ) (p : List ℕ) (ps : List (List ℕ)) → all (lacks sep) (p ∷ ps) ≡ true → parts sep (joined sep (p ∷ ps)) ≡ p ∷ ps

-- words are the same exactly where they are equal with their capitals as small letters
abbrev pub SameIsLowered : Type 0
SameIsLowered = (a b : List ℕ) → Decides (same a b) (map lowered a ≡ map lowered b)

-- a host name has at most 253 bytes, and is one or more labels joined by dots
abbrev pub HostNameIsLabels : Type 0
HostNameIsLabels = (s : List ℕ) →
    Decides (host_name s)
    ((length s ≤ 253) × (l : List ℕ) × (ls : List (List ℕ)) × (all label (l ∷ ls) ≡ true) × (s ≡ joined 46 (l ∷ ls)))

-- a name that is one label, a dot and what the pattern has behind `*.`, but for the case of letters
abbrev pub ByStar : List ℕ → List ℕ → Type 0
ByStar p h = (l : List ℕ) × (r : List ℕ) × (label l ≡ true) × (h ≡ l ++ (46 ∷ r)) × (map lowered p ≡ 42 ∷ (46 ∷ map lowered r))

-- a pattern covers exactly the host names that it equals but for the case of letters, and those that its star makes of one label
abbrev pub CoversExactly : Type 0
CoversExactly = (p h : List ℕ) → Decides (covers_name p h) ((host_name h ≡ true) × ((map lowered p ≡ map lowered h) ⊎ ByStar p h))

pub record NamesHold : Type 0 where
  pub parts_join : PartsJoin
  pub parts_only : PartsOnly
  pub same_is_lowered : SameIsLowered
  pub host_name_is_labels : HostNameIsLabels
  pub covers_exactly : CoversExactly
