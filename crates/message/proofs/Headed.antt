-- The header, line by line.
use Rattle.std.proofs.Common.{◌≡◌, ℕ, ◌≤◌, Bool, true, false, cond, not, List, [], ◌∷◌, ◌++◌, length, take, sym, refl, ap, ◌∙◌, subst, length-append, arith}
use Rattle.std.proofs.lemmas.List.Recursion.{is_sum_by}
use Rattle.std.proofs.lemmas.List.Sums.{take_while-cons}
use Rattle.std.specs.List.{sum_by, take_while}
use lib.Seq.{take-append-add}
use Rattle.message.specs.Lines.{lines_of, joined, empty_line, before_empty, header}
use Rattle.message.proofs.Lined.{joined_lines}

cond_take : (b : Bool) (l : List ℕ) (ls : List (List ℕ)) (s : List ℕ) → take (length (joined ls)) s ≡ joined ls →
    take (length (joined (cond b [] (l ∷ ls)))) (l ++ s) ≡ joined (cond b [] (l ∷ ls))
cond_take true l ls s e = refl
cond_take false l ls s e =
    ap (λ (n : ℕ). take n (l ++ s)) (length-append l (joined ls)) ∙ (take-append-add l s (length (joined ls)) ∙ ap (λ (t : List ℕ). l ++ t) e)

before_take : (ls : List (List ℕ)) → take (length (joined (before_empty ls))) (joined ls) ≡ joined (before_empty ls)
before_take [] = refl
before_take (l ∷ ls) = cond_take (empty_line l) l (before_empty ls) (joined ls) (before_take ls)

-- how long lines are together
pub joined_sum : (ls : List (List ℕ)) → length (joined ls) ≡ sum_by length ls
joined_sum = is_sum_by (λ ls. length (joined ls)) length refl (λ l ls. length-append l (joined ls))

pub before_while : (ls : List (List ℕ)) → before_empty ls ≡ take_while (λ l. not (empty_line l)) ls
before_while [] = refl
before_while (l ∷ ls) =
    elim (empty_line l) as (λ b. cond b [] (l ∷ before_empty ls) ≡ cond (not b) (l ∷ take_while (λ l. not (empty_line l)) ls) []) [ true ↦ refl | false ↦ ap (λ ms. l ∷ ms) (before_while ls) ]
    ∙ sym (take_while-cons (λ l. not (empty_line l)) l ls)

-- the header is the front of the section
pub header_take : (s : List ℕ) → take (length (header s)) s ≡ header s
header_take s = ap (λ (t : List ℕ). take (length (header s)) t) (sym (joined_lines s)) ∙ before_take (lines_of s)

grows : (l a b : List ℕ) → length a ≤ length b → length (l ++ a) ≤ length (l ++ b)
grows l a b h = omega (arith, length-append l a, length-append l b)

none_most : (b : List ℕ) → length {A = ℕ} [] ≤ length b
none_most b = omega arith

-- the lines at the front that pass a test take no more than the text
while_most : (test : List ℕ → Bool) (ls : List (List ℕ)) → length (joined (take_while test ls)) ≤ length (joined ls)
while_most test [] = omega arith
while_most test (l ∷ ls) =
    subst (λ ms. length (joined ms) ≤ length (l ++ joined ls)) (sym (take_while-cons test l ls))
    (elim (test l) as (λ b. length (joined (cond b (l ∷ take_while test ls) [])) ≤ length (l ++ joined ls)) [
      | true ↦ grows l (joined (take_while test ls)) (joined ls) (while_most test ls)
      | false ↦ none_most (l ++ joined ls)
    ])

pub front_most : (test : List ℕ → Bool) (s : List ℕ) → length (joined (take_while test (lines_of s))) ≤ length s
front_most test s = subst (λ t. length (joined (take_while test (lines_of s))) ≤ length t) (joined_lines s) (while_most test (lines_of s))
