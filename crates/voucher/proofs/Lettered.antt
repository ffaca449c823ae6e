-- Names in small letters: what does not depend on the case of a name's letters.
use Rattle.std.proofs.Common.{◌≡◌, ℕ, ◌+◌, true, eqb, List, [], ◌∷◌, refl, arith}
use Rattle.std.proofs.lemmas.Bool.Decides.{nat_tests}
use Rattle.std.proofs.lemmas.List.{length-map}
use Rattle.std.proofs.lemmas.Bool.{and_parts, eqb-true}
use Rattle.smtp.specs.Bytes.{lowered, same}
use Rattle.smtp.specs.Names.{label_byte, host_name, wild, covers_name}
use Rattle.smtp.specs.Parts.{from_first}
use Rattle.smtp.proofs.Named.{runs, runs_dotted}
use Rattle.voucher.specs.Voucher.{lower}

lowered_twice : (x : ℕ) → lowered (lowered x) ≡ lowered x
lowered_twice x = grind (arith, nat_tests)

label_lower : (x : ℕ) → label_byte (lowered x) ≡ label_byte x
label_lower x = grind (arith, nat_tests)

dot_lower : (x : ℕ) → eqb (lowered x) 46 ≡ eqb x 46
dot_lower x = grind (arith, nat_tests)

pub same_lower : (a b : List ℕ) → same a (lower b) ≡ same a b
same_lower [] [] = refl
same_lower [] (y ∷ b) = refl
same_lower (x ∷ a) [] = refl
same_lower (x ∷ a) (y ∷ b) = let e = same_lower a b in let f = lowered_twice y in cc

runs_lower : (most n : ℕ) (s : List ℕ) → runs label_byte most n (lower s) ≡ runs label_byte most n s
runs_lower most n [] = refl
runs_lower most n (x ∷ s) =
    let a = runs_lower most 0 s in
    let b = runs_lower most (n + 1) s in
    let d = dot_lower x in
    let l = label_lower x in
    cc

pub host_lower : (s : List ℕ) → host_name (lower s) ≡ host_name s
host_lower s =
    let a = runs_dotted label_byte 63 (lower s) in
    let b = runs_lower 63 0 s in
    let c = runs_dotted label_byte 63 s in
    let d = length-map s lowered in
    cc

from_lower : (s : List ℕ) → from_first 46 (lower s) ≡ lower (from_first 46 s)
from_lower [] = refl
from_lower (x ∷ s) = let e = from_lower s in let d = dot_lower x in grind (arith, nat_tests)

wild_lower : (p name : List ℕ) → wild p (lower name) ≡ wild p name
wild_lower [] name = refl
wild_lower (x ∷ []) name = refl
wild_lower (x ∷ (y ∷ rest)) name = let e = from_lower name in let f = same_lower (y ∷ rest) (from_first 46 name) in cc

-- what a pattern covers does not depend on the case of its letters
pub covers_lower : (p name : List ℕ) → covers_name p (lower name) ≡ covers_name p name
covers_lower p name = let h = host_lower name in let a = same_lower p name in let b = wild_lower p name in cc

-- two names that differ in the case of letters only are the same in small letters
pub lower_same : (a b : List ℕ) → same a b ≡ true → lower a ≡ lower b
lower_same [] [] h = refl
lower_same [] (y ∷ b) h = cc
lower_same (x ∷ a) [] h = cc
lower_same (x ∷ a) (y ∷ b) h =
    let (p, q) = and_parts (eqb (lowered x) (lowered y)) (same a b) h in
    let e = eqb-true (lowered x) (lowered y) p in
    let t = lower_same a b q in
    cc
