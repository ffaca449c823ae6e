-- The words of a command, by the first of them and those behind it.
use Rattle.std.proofs.Common.{◌≡◌, ℕ, ◌-◌, ◌≤◌, List, [], ◌∷◌, map, length, get_or, take, drop, sym, ap, ◌∙◌, arith}
use Rattle.std.proofs.lemmas.List.{take_rest}
use Rattle.balgwir.specs.Commands.{BeginsWith}

pub begins : {A : Type 0} (f : A → List ℕ) (ws : List A) (a : A) (x : List ℕ) → 1 ≤ length ws → a ≡ get_or ws 0 a → x ≡ f a → BeginsWith x (map f ws)
begins f [] a x h at is = absurd (omega arith)
begins f (w ∷ ws) a x h at is = sym (is ∙ ap f at)

pub first_and_rest : {A : Type 0} (f : A → List ℕ) (ws : List A) (a : A) (x : List ℕ) → 1 ≤ length ws → a ≡ get_or ws 0 a → x ≡ f a
    → map f ws ≡ x ∷ map f (take (length ws - 1) (drop 1 ws))
first_and_rest f [] a x h at is = absurd (omega arith)
first_and_rest f (w ∷ ws) a x h at is =
    ap (λ (y : List ℕ). y ∷ map f ws) (sym (is ∙ ap f at)) ∙ ap (λ l. x ∷ map f l) (sym (take_rest (w ∷ ws) 1))
