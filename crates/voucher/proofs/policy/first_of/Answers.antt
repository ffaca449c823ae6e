use Rattle.std.proofs.Common.{◌≡◌, ℕ, Bor, List, Option, Some, None, MatchOption, IsSomeAnd, ap, ◌∙◌, rules}
use Rattle.std.specs.Str.{bytes_eq}
use Rattle.std.specs.Option.{option_map}
use Rattle.voucher.specs.declared.policy_lines.Field.{Field}
use Rattle.std.proofs.lemmas.Iterator.Search.{find_from_yields_List}
use Rattle.voucher.specs.PolicyLines.{key, value, lines}
use Rattle.voucher.proofs.Lined.{fields_are}
use Rattle.voucher.proofs.Policies.{first_found}
use Rattle.voucher.proofs.policy.first_of.Goals as goal
use borrow.Author.Tests.{tests}

value_is : {P : Field → Bor (List ℕ) → Type 0} (o : Option Field) (r : Option (Bor (List ℕ))) → MatchOption o (r ≡ None) (λ f. IsSomeAnd r (P f)) → ((f : Field) (v : Bor (List ℕ)) → P f v → v.now ≡ value f.line.now) → option_map (λ v. v.now) r ≡ option_map (λ f. value f.line.now) o
value_is None r h k = ap (option_map (λ v. v.now)) h
value_is (Some f) None h k = absurd h
value_is (Some f) (Some v) h k = ap Some (k f v h)

pub returns : goal.returns
returns c =
    let k = c.args.key.now in
    let e = first_found k (lines c.args.text.now) c.find.result (find_from_yields_List (λ l. bytes_eq (key l) k) c.find.new.self _ _ c.find.ensures.ran (fields_are c.fields_of.result c.args.text.now c.fields_of.ensures) (λ x b q k. search (rules, tests))) in
    value_is c.find.result c.map.result c.map.ensures.cases (λ f r h. search (rules, tests)) ∙ e
