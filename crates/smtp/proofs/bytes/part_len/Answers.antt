use Rattle.std.proofs.Common.{◌≡◌, ◌==◌, Option, ℕ, length, sym, ap, ◌∙◌, arith, rules, tests}
use Rattle.std.specs.Option.{unwrap_or}
use Rattle.std.specs.List.{position}
use Rattle.std.proofs.lemmas.Iterator.{YieldsList-from_slice}
use Rattle.std.proofs.lemmas.Iterator.Search.{position_from_yields_List}
use Rattle.smtp.specs.Parts.{first_part}
use Rattle.smtp.proofs.Parted.{first_place}
use Rattle.smtp.proofs.bytes.part_len.Goals as goal

pub returns-in-Some-clause-is : goal.returns-in-Some-clause-is
returns-in-Some-clause-is c =
    let s = c.args.s.now in
    let found : c.position.result ≡ position (λ x. x == c.args.sep) s =
    position_from_yields_List (λ x. x == c.args.sep) _ _ c.position.result c.position.ensures.ran (YieldsList-from_slice _ c.iter.ensures.rest) (λ x b q k. search (rules, tests)) in
    let e : c.in-Some.place ≡ length (first_part c.args.sep s) =
    sym (ap (λ (o : Option ℕ). unwrap_or o (length s)) (sym found ∙ c.in-Some.is)) ∙ first_place c.args.sep s in
    omega (arith, e)

pub returns-in-None-clause-is : goal.returns-in-None-clause-is
returns-in-None-clause-is c =
    let s = c.args.s.now in
    let found : c.position.result ≡ position (λ x. x == c.args.sep) s =
    position_from_yields_List (λ x. x == c.args.sep) _ _ c.position.result c.position.ensures.ran (YieldsList-from_slice _ c.iter.ensures.rest) (λ x b q k. search (rules, tests)) in
    let e : length s ≡ length (first_part c.args.sep s) =
    sym (ap (λ (o : Option ℕ). unwrap_or o (length s)) (sym found ∙ c.in-None.is)) ∙ first_place c.args.sep s in
    omega (arith, e)
