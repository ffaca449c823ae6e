-- A MAIL line written part by part into a buffer.
use Rattle.std.proofs.Common.{◌≡◌, ℕ, suc, ◌+◌, ◌≤◌, Bool, true, false, cond, not, ◌&&◌, eqb, ltb, leb, List, [], ◌∷◌, ◌++◌, length, Ok, Err, sym, ap, ◌∙◌, inl, inr, arith}
use Rattle.std.proofs.lemmas.Bool.Decides.{nat_tests}
use Rattle.std.proofs.lemmas.Bool.{true≢false, and_parts, leb-true, eqb-true, or_cases, le-ltb, le-leb}
use Rattle.std.proofs.lemmas.List.{append_assoc}
use Rattle.smtp.specs.declared.refusal.Refusal.TheVariants.{BadAddress, ShortBuffer}
use Rattle.smtp.specs.Parts.{first_part, behind_first}
use Rattle.smtp.specs.Names.{atom_byte, label_byte, dotted, host_name, address}
use Rattle.message.specs.MailLines.{mail_from, path_form, ending, written, writing, at_front, buffer_after}
use Rattle.message.specs.Writing.{Written}

-- a text by its first part and what is behind it
split_length : (sep : ℕ) (s : List ℕ) → length s ≤ length (first_part sep s) + suc (length (behind_first sep s))
split_length sep [] = omega arith
split_length sep (x ∷ s) = let h = split_length sep s in grind (arith, nat_tests)

address_length : (s : List ℕ) → address s ≡ true → length s ≤ 318
address_length s e =
    let (a, p) = and_parts (leb (length (first_part 64 s)) 64) (dotted atom_byte 64 (first_part 64 s) && host_name (behind_first 64 s)) e in
    let (d, h) = and_parts (dotted atom_byte 64 (first_part 64 s)) (host_name (behind_first 64 s)) p in
    let (b, l) = and_parts (leb (length (behind_first 64 s)) 253) (dotted label_byte 63 (behind_first 64 s)) h in
    let x = leb-true (length (first_part 64 s)) 64 a in
    let y = leb-true (length (behind_first 64 s)) 253 b in
    let z = split_length 64 s in
    omega arith

-- a path has at most 64 bytes, an at sign and 253
pub path_length : (path : List ℕ) → path_form path ≡ true → length path ≤ 318
path_length path e = elim (or_cases (eqb (length path) 0) (address path) e) [
  | inl f ↦ let g = eqb-true (length path) 0 f in omega arith
  | inr f ↦ address_length path f
]

pub ending_length : (require_tls : Bool) → length (ending require_tls) ≤ 14
ending_length true = omega arith
ending_length false = omega arith

-- an accepted line, by the tests of its path and of the room
pub accepted : (line : List ℕ) (t f : Bool) (n : ℕ) → t ≡ true → f ≡ false → n ≡ length line →
    Ok n ≡ cond (not t) (Err BadAddress) (cond f (Err ShortBuffer) (Ok (length line)))
accepted line true false n p q e = ap Ok e
accepted line true true n p q e = absurd (true≢false q)
accepted line false f n p q e = absurd (true≢false (sym p))

pub filled : (t f : Bool) (x y z : List ℕ) → t ≡ true → f ≡ true → x ≡ y → x ≡ cond (t && f) y z
filled true true x y z p q e = e
filled true false x y z p q e = absurd (true≢false (sym q))
filled false f x y z p q e = absurd (true≢false (sym p))

-- a line that is written in three parts
pub write_is : (path en out lent : List ℕ) (require_tls : Bool) (n : ℕ) → path_form path ≡ true → 523 ≤ length lent → en ≡ ending require_tls → Written n out (mail_from ++ path ++ en) lent →
    record { answer : Ok n ≡ writing path require_tls (length lent); buffer : out ≡ buffer_after path require_tls lent }
write_is path en out lent require_tls n p h e (i, j) =
    let f : mail_from ++ path ++ en ≡ written path require_tls = append_assoc mail_from path en ∙ ap (λ t. mail_from ++ (path ++ t)) e in
    record {
      answer = accepted (written path require_tls) (path_form path) (ltb (length lent) 523) n p (le-ltb (length lent) 523 h) (i ∙ ap length f);
      buffer = filled (path_form path) (leb 523 (length lent)) out (at_front (written path require_tls) lent) lent p (le-leb 523 (length lent) h) (j ∙ ap (λ t. at_front t lent) f);
    }
