-- Chains of iterators: one whose first item is taken by a call of its own, and the lengths of the lines at the front.
use Rattle.std.proofs.Common.{◌≡◌, ℕ, Bool, false, List, [], ◌∷◌, map, length, Some, None, Option, Bor, sym, refl, ap, subst}
use Rattle.std.specs.Fn.{Called, CalledAt}
use Rattle.std.specs.Iterator.{YieldsFirstRef}
use Rattle.std.specs.Iterator.Adapters.{take_while_source, take_while_callee, take_while_done, take_while_steps, map_source, map_callee}
use Rattle.std.specs.List.{take_while}
use Rattle.std.specs.declared.iter.Map.{Map}
use Rattle.std.specs.declared.iter.TakeWhile.{TakeWhile}
use Rattle.std.proofs.lemmas.Iterator.{YieldsList, YieldsList-from_map, maps}
use Rattle.std.proofs.lemmas.Iterator.Search.{YieldsList-from_take_while}
use Rattle.std.proofs.lemmas.Iterator.Consumers.{YieldsList-at, YieldsList-from_first}
use Rattle.message.specs.Lines.{lines_of}
use Rattle.message.specs.declared.lines.Lines.{Lines}
use denote.Param.Members.{Mut}

-- a call gives nothing where nothing is left
pub none_left : {S A B : Type 0} {steps : S → Option A → S → Type 0} {v : A → B} {s : S} (all : List B) (r : Option A) (t : S) → steps s r t → YieldsList steps v s all → r ≡ None → all ≡ []
none_left [] r t k e n = refl
none_left {steps = steps} {s = s} (y ∷ ys) r t k e n = absurd (e.runs.0 t (subst (λ r. steps s r t) n k))

-- or else the first item, and the iterator gives the others from then on
pub first_left : {S A B : Type 0} {steps : S → Option A → S → Type 0} {v : A → B} {s : S} (all : List B) (r : Option A) (x : A) (t : S) → steps s r t → YieldsList steps v s all → r ≡ Some x →
    (ys : List B) × (all ≡ v x ∷ ys) × YieldsList steps v t ys
first_left {steps = steps} {s = s} [] r x t k e n = absurd (e.runs x t (subst (λ r. steps s r t) n k))
first_left {steps = steps} {s = s} (y ∷ ys) r x t k e n = let m = e.runs.1 x t (subst (λ r. steps s r t) n k) in (ys, ap (λ z. z ∷ ys) (sym m.0), record { runs = m.1 })

-- a call where an iterator gives a list that is not empty: its first item comes, and the iterator gives the others from then on
pub next_is : {S A B : Type 0} {steps : S → Option A → S → Type 0} {v : A → B} {s : S} {all : List B} {y : B} {ys : List B} (r : Option A) (t : S) → steps s r t →
    YieldsList steps v s all → all ≡ y ∷ ys → (x : A) × (r ≡ Some x) × (v x ≡ y) × YieldsList steps v t ys
next_is {S} {A} {B} {steps} {v} {s} {all} {y} {ys} r t k h e = by r k
  where
    runs : YieldsList steps v s (y ∷ ys)
    runs = subst (YieldsList steps v s) e h

    by : (r : Option A) → steps s r t → (x : A) × (r ≡ Some x) × (v x ≡ y) × YieldsList steps v t ys
    by None k = absurd (runs.runs.0 t k)
    by (Some x) k = let m = runs.runs.1 x t k in (x, refl, m.0, record { runs = m.1 })

-- the lines of a text, from the first on
pub lines_yielded : {s : Lines} (text : List ℕ) → s.rest.now ≡ text → YieldsList (YieldsFirstRef (λ s. lines_of s.rest.now)) (λ x. x.now) s (lines_of text)
lines_yielded text e = YieldsList-from_first (λ x. x.now) (λ s. lines_of s.rest.now) (lines_of text) (ap lines_of e)

-- the lengths of the lines at the front that pass a test
pub front_lengths : {F G : Type 0} {s : Lines} {t : TakeWhile Lines F} {m : Map (TakeWhile Lines F) G} {f : F} {h : G} (g : Mut F (Bor (Bor (List ℕ)) × Unit {0}) Bool) (j : Mut G (Bor (List ℕ) × Unit {0}) ℕ)
    (test : List ℕ → Bool) (text : List ℕ) → s.rest.now ≡ text → take_while_source t ≡ s → take_while_callee t ≡ f → take_while_done t ≡ false →
    ((x : Bor (List ℕ)) (b : Bool) (q : F) → CalledAt g f x b q → (q ≡ f) × (b ≡ test x.now)) → map_source m ≡ t → map_callee m ≡ h →
    ((x : Bor (List ℕ)) (r : ℕ) (q : G) → Called j h (x, tt) r q → (q ≡ h) × (r ≡ length x.now)) →
    YieldsList (maps (take_while_steps (YieldsFirstRef (λ s. lines_of s.rest.now)) g) j) (λ r. r) m (map length (take_while test (lines_of text)))
front_lengths g j test text e source closure done tests at callee lengths =
    YieldsList-from_map j length (YieldsList-at at (YieldsList-from_take_while g test (YieldsList-at source (lines_yielded text e)) closure done tests)) callee lengths
