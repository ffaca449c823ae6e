-- Names as the loops read them: byte by byte, with what the bytes before have settled.
use Rattle.std.proofs.Common.{◌≡◌, ℕ, ◌+◌, ◌<◌, ◌≤◌, Bool, true, false, cond, ◌&&◌, ◌||◌, eqb, ltb, leb, List, [], ◌∷◌, length, get_or, take, drop, refl, ap, sym, nat_eq, inl, inr, arith}
use Rattle.std.proofs.lemmas.List.{at_drop_more, at_drop_all, drop-drop}
use Rattle.std.proofs.lemmas.Bool.{cases_lt}
use Rattle.std.proofs.lemmas.Bool.Decides.{nat_tests as tells}
use Rattle.std.specs.List.{starts_with}
use Rattle.smtp.specs.Bytes.{within, lowered, same, all, some}
use Rattle.smtp.specs.Parts.{first_part, other_parts, parts, from_first}
use Rattle.smtp.specs.Names.{atom_byte, word, dotted, host_name, address, wild, covered, covers_name}
use Rattle.smtp.proofs.Parted.{part_len, take_first, drop_first, drop_behind}

-- whether what is left is words joined by dots, of whose first word `n` bytes are read
abbrev pub runs : (ℕ → Bool) → ℕ → ℕ → List ℕ → Bool
runs kind most n [] = within 1 n most
runs kind most n (x ∷ s) = cond (eqb x 46) (within 1 n most && runs kind most 0 s) (kind x && runs kind most (n + 1) s)

runs_is : (kind : ℕ → Bool) (most n : ℕ) (s : List ℕ) →
    runs kind most n s ≡ ((within 1 (n + length (first_part 46 s)) most && all kind (first_part 46 s)) && all (word kind most) (other_parts 46 s))
runs_is kind most n [] = grind (arith, tells)
runs_is kind most n (x ∷ s) =
    let a = runs_is kind most 0 s in
    let b = runs_is kind most (n + 1) s in
    grind (arith, tells)

pub runs_dotted : (kind : ℕ → Bool) (most : ℕ) (s : List ℕ) → runs kind most 0 s ≡ dotted kind most s
runs_dotted kind most s = let e = runs_is kind most 0 s in grind (arith, tells)

-- no word that is longer already
pub runs_long : (kind : ℕ → Bool) (most n : ℕ) (s : List ℕ) → most < n → runs kind most n s ≡ false
runs_long kind most n s h = let e = runs_is kind most n s in grind (arith, tells)

pub runs_more : (kind : ℕ → Bool) (most n : ℕ) (s : List ℕ) (i : ℕ) → i < length s →
    runs kind most n (drop i s) ≡ cond (eqb (get_or s i 0) 46) (within 1 n most && runs kind most 0 (drop (i + 1) s)) (kind (get_or s i 0) && runs kind most (n + 1) (drop (i + 1) s))
runs_more kind most n s i h = at_drop_more (runs kind most n) s i 0 h

pub runs_all : (kind : ℕ → Bool) (most n : ℕ) (s : List ℕ) (i : ℕ) → length s ≤ i → runs kind most n (drop i s) ≡ within 1 n most
runs_all kind most n s i h = at_drop_all (runs kind most n) s i h

-- whether one of the names in a text covers the host
unfoldable pub sought : List ℕ → List ℕ → Bool
sought host s = some (λ pattern. covered pattern host) (parts 32 s)

-- the same in the midst of a name, which fits so far or not, and is still to equal what is left of the host
unfoldable pub left : List ℕ → Bool → List ℕ → List ℕ → Bool
left host live h s = (live && same (first_part 32 s) h) || some (λ pattern. covered pattern host) (other_parts 32 s)

ended : (h : List ℕ) (k : ℕ) → k ≤ length h → same [] (drop k h) ≡ eqb k (length h)
ended h k l = elim (cases_lt k (length h)) [
  | inl a ↦ let e = at_drop_more (same []) h k 0 a in grind (arith, tells)
  | inr a ↦ let e = at_drop_all (same []) h k a in grind (arith, tells)
]

-- a name ends where the text does, and at a blank
pub left_ends : (host : List ℕ) (live : Bool) (h : List ℕ) (k : ℕ) (s : List ℕ) (i : ℕ) → k ≤ length h → (i < length s → get_or s i 0 ≡ 32) →
    left host live (drop k h) (drop i s) ≡ ((live && eqb k (length h)) || (ltb i (length s) && sought host (drop (i + 1) s)))
unfolding left sought
left_ends host live h k s i b x =
    let d = ended h k b in
    elim (cases_lt i (length s)) [
      | inl l ↦
          let y = x l in
          let e = at_drop_more (left host live (drop k h)) s i 0 l in
          grind (arith, tells)
      | inr l ↦ let e = at_drop_all (left host live (drop k h)) s i l in grind (arith, tells)
    ]

-- at a byte like the host's
pub left_fits : (host : List ℕ) (live : Bool) (h : List ℕ) (k : ℕ) (s : List ℕ) (i : ℕ) → k < length h → i < length s → (get_or s i 0 ≡ 32 → ⊥) →
    lowered (get_or s i 0) ≡ lowered (get_or h k 0) → left host live (drop k h) (drop i s) ≡ left host live (drop (k + 1) h) (drop (i + 1) s)
unfolding left
left_fits host live h k s i b l x f =
    let d = at_drop_more (same (get_or s i 0 ∷ first_part 32 (drop (i + 1) s))) h k 0 b in
    let e = at_drop_more (left host live (drop k h)) s i 0 l in
    grind (arith, tells)

-- at any other byte
pub left_miss : (host : List ℕ) (live : Bool) (h : List ℕ) (k : ℕ) (s : List ℕ) (i : ℕ) → i < length s → (get_or s i 0 ≡ 32 → ⊥) →
    (k < length h → lowered (get_or s i 0) ≡ lowered (get_or h k 0) → ⊥) → left host live (drop k h) (drop i s) ≡ left host false (drop k h) (drop (i + 1) s)
unfolding left
left_miss host live h k s i l x f =
    let e = at_drop_more (left host live (drop k h)) s i 0 l in
    elim (cases_lt k (length h)) [
      | inl b ↦
          let d = at_drop_more (same (get_or s i 0 ∷ first_part 32 (drop (i + 1) s))) h k 0 b in
          let g = f b in
          grind (arith, tells)
      | inr b ↦ let d = at_drop_all (same (get_or s i 0 ∷ first_part 32 (drop (i + 1) s))) h k b in grind (arith, tells)
    ]

-- a pattern that begins with `*.`
pub wild_star : (p name : List ℕ) → 1 < length p → get_or p 0 0 ≡ 42 → get_or p 1 0 ≡ 46 → wild p name ≡ same (drop 1 p) (from_first 46 name)
wild_star [] name l s d = absurd (omega arith)
wild_star (x ∷ []) name l s d = absurd (omega arith)
wild_star (x ∷ (y ∷ p)) name l s d = grind (arith, tells)

-- which covers itself too, where the name is no host name
covered_star : (p name : List ℕ) → covered (42 ∷ (46 ∷ p)) name ≡ same (46 ∷ p) (from_first 46 name)
covered_star p [] = refl
covered_star p (x ∷ []) = grind (arith, tells)
covered_star p (x ∷ (y ∷ name)) = grind (arith, tells)

-- a name's start, with a star or without one
abbrev pub starred : List ℕ → Bool
starred s = starts_with nat_eq s (42 ∷ (46 ∷ []))

start_star : (host s : List ℕ) → starred s ≡ true → left host true (from_first 46 host) (drop 1 s) ≡ sought host s
unfolding left sought
start_star host [] t = grind (arith, tells)
start_star host (x ∷ []) t = grind (arith, tells)
start_star host (x ∷ (y ∷ s)) t = let e = covered_star (first_part 32 s) host in grind (arith, tells)

start_plain : (host s : List ℕ) → starred s ≡ false → left host true host s ≡ sought host s
unfolding left sought
start_plain host [] t = grind (arith, tells)
start_plain host (x ∷ []) t = grind (arith, tells)
start_plain host (x ∷ (y ∷ s)) t = grind (arith, tells)

pub left_start : (host text : List ℕ) (at dot : ℕ) (b : Bool) → dot ≡ part_len 46 host → b ≡ starred (drop at text) →
    left host true (drop (cond b dot 0) host) (drop (cond b (at + 1) at) text) ≡ sought host (drop at text)
left_start host text at dot true e t = rw (e, drop_first, ← drop-drop 1 at text) (start_star host (drop at text) (sym t))
left_start host text at dot false e t = start_plain host (drop at text) (sym t)

-- an address by the place of its at sign
pub address_at : (s : List ℕ) (n : ℕ) → n ≡ part_len 64 s →
    address s ≡ (leb n 64 && (ltb n (length s) && (dotted atom_byte 64 (take n s) && host_name (drop (n + 1) s))))
address_at s n e =
    let a = ap (dotted atom_byte 64) (take_first 64 s) in
    let b = ap host_name (drop_behind 64 s) in
    elim (cases_lt n (length s)) [ inl l ↦ grind (arith, tells) | inr l ↦ let p = at_drop_all host_name s (n + 1) (omega arith) in grind (arith, tells) ]

-- that the host is a host name may be asked once
pub host_once : (host : List ℕ) (ps : List (List ℕ)) → some (λ p. covers_name p host) ps ≡ (host_name host && some (λ p. covered p host) ps)
host_once host ps = once (host_name host) ps
  where
    once : (b : Bool) (qs : List (List ℕ)) → some (λ p. b && covered p host) qs ≡ (b && some (λ p. covered p host) qs)
    once true qs = refl
    once false [] = refl
    once false (q ∷ qs) = once false qs
