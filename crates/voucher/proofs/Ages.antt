-- The lifetime of a policy, as `parse` reads its digits.
use Rattle.std.proofs.Common.{◌≡◌, ℕ, ◌≤◌, Bool, true, false, nat_le, List, length, Result, Ok, Err, MatchResult, rules, arith}
use Rattle.std.specs.List.{list_all}
use Rattle.std.specs.Str.{IsUtf8}
use Rattle.std.specs.Str.Parse.{ParsesUnsigned, digits_value}
use Rattle.std.proofs.lemmas.Bool.Decides.{nat_tests}
use Rattle.std.proofs.lemmas.Fmt.{IsAscii-from_digits}
use Rattle.std.proofs.lemmas.Str.{IsUtf8-from_ascii}
use Rattle.std.proofs.lemmas.Str.Parse.{IsNumeralModel, numerals_by_value, parse_digits}
use Rattle.smtp.specs.Bytes.{digit}
use Rattle.voucher.specs.Policy.{is_age}

numerals : IsNumeralModel (λ v. list_all digit v ≡ true) (digits_value 10)
numerals = numerals_by_value _ (search rules)

pub digits_are_text : (v : List ℕ) → list_all digit v ≡ true → IsUtf8 v
digits_are_text v d = IsUtf8-from_ascii v (IsAscii-from_digits v (numerals.to v d))

pub age_parsed : {E : Type 0} (v : List ℕ) (r : Result ℕ E) (b : Bool) → ParsesUnsigned 32 10 v r → length v ≤ 10 → list_all digit v ≡ true →
    MatchResult r (λ n. b ≡ nat_le n 31557600) (λ _. b ≡ false) → b ≡ is_age v
age_parsed {E} v (Ok n) b p h d m = let q = parse_digits numerals {E = E} 32 v (Ok n) p d in grind (arith, nat_tests)
age_parsed {E} v (Err e) b p h d m = let q = parse_digits numerals {E = E} 32 v (Err e) p d in grind (arith, nat_tests)
