-- A policy read by its lines, and the names that it vouches for.
use Rattle.std.proofs.Common.{◌≡◌, ℕ, ◌&&◌, Option, Some, None, List, [], ◌∷◌, length, get_or, sym, refl, ap, ◌∙◌, arith}
use Rattle.std.proofs.Math.Bool.{and-false}
use Rattle.std.proofs.lemmas.Bool.Decides.{nat_tests}
use Rattle.std.specs.Str.{bytes_eq}
use Rattle.std.specs.List.{list_any, find}
use Rattle.std.specs.Option.{option_map}
use Rattle.std.proofs.lemmas.List.FromFn.{fill_by_all}
use Rattle.smtp.specs.Names.{host_name}
use Rattle.voucher.specs.declared.policy_lines.Field.{Field}
use Rattle.voucher.specs.PolicyLines.{key, value}
use Rattle.voucher.specs.Policy.{first_of, mode_named, mx_covers}
use Rattle.voucher.specs.Voucher.{lower}
use Rattle.voucher.proofs.Lettered.{covers_lower}

-- the value of the first field with a key
pub first_found : (k : List ℕ) (ls : List (List ℕ)) (o : Option Field) → option_map (λ f. f.line.now) o ≡ find (λ l. bytes_eq (key l) k) ls → option_map (λ f. value f.line.now) o ≡ first_of k ls
first_found k ls o h = of_line o ∙ ap (option_map value) h ∙ found k ls
  where
    of_line : (p : Option Field) → option_map (λ f. value f.line.now) p ≡ option_map value (option_map (λ f. f.line.now) p)
    of_line None = refl
    of_line (Some f) = refl

    found : (q : List ℕ) (ks : List (List ℕ)) → option_map value (find (λ l. bytes_eq (key l) q) ks) ≡ first_of q ks
    found q [] = refl
    found q (l ∷ ks) = let e = found q ks in grind (arith, nat_tests)

-- a mode's name of seven bytes, byte by byte
pub named_by_seven : (s : List ℕ) → length s ≡ 7 →
    mode_named s ≡ mode_named (get_or s 0 0 ∷ (get_or s 1 0 ∷ (get_or s 2 0 ∷ (get_or s 3 0 ∷ (get_or s 4 0 ∷ (get_or s 5 0 ∷ (get_or s 6 0 ∷ [])))))))
named_by_seven s h = ap mode_named (fill_by_all (λ k. get_or s k 0) s 7 0 h (λ k l. refl))

-- only host names are covered, and a policy may be asked for a name in small letters
pub covers_held : (name : List ℕ) (ls : List (List ℕ)) → list_any (mx_covers name) ls ≡ (host_name name && list_any (mx_covers (lower name)) ls)
covers_held name [] = sym (and-false (host_name name))
covers_held name (l ∷ ls) = let e = covers_held name ls in let c = covers_lower (value l) name in grind (arith, nat_tests)
