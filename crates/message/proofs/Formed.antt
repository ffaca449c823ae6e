-- The form of content, byte by byte.
use Rattle.std.proofs.Common.{◌≡◌, ℕ, ◌+◌, ◌<◌, ◌≤◌, Bool, true, false, cond, eqb, ltb, List, ◌∷◌, length, get_or, drop, Ok, Err, sym, refl, ap, ◌∙◌, inl, inr, arith}
use Rattle.std.proofs.lemmas.List.{drop_more, drop_all, at_drop_all, get_or_past}
use Rattle.std.proofs.lemmas.Bool.Decides.{nat_tests}
use Rattle.std.proofs.lemmas.Bool.{cases_lt}
use Rattle.smtp.specs.declared.refusal.Refusal.{Refusal}
use Rattle.smtp.specs.declared.refusal.Refusal.TheVariants.{BadContent}
use Rattle.message.specs.Content.{plain, lines_from, well_formed, checked}

pub well_two : (n i : ℕ) (s : List ℕ) → i + 1 < length s → lines_from n (drop i s) ≡ cond (eqb (get_or s i 0) 13) (cond (eqb (get_or s (i + 1) 0) 10) (lines_from 0 (drop (i + 1 + 1) s)) false) (cond (ltb n 998) (cond (plain (get_or s i 0)) (lines_from (n + 1) (drop (i + 1) s)) false) false)
well_two n i s h =
    let e = drop_more s (i + 1) 0 h in
    let d = drop_more s i 0 (omega arith) in
    ap (lines_from n) (d ∙ ap (λ (t : List ℕ). get_or s i 0 ∷ t) e) ∙ ap (λ (t : List ℕ). cond (eqb (get_or s i 0) 13) (cond (eqb (get_or s (i + 1) 0) 10) (lines_from 0 (drop (i + 1 + 1) s)) false) (cond (ltb n 998) (cond (plain (get_or s i 0)) (lines_from (n + 1) t) false) false)) (sym e)

pub well_one : (n i : ℕ) (s : List ℕ) → i + 1 ≡ length s → lines_from n (drop i s) ≡ false
well_one n i s h =
    let e = drop_all (i + 1) s (omega arith) in
    let d = drop_more s i 0 (omega arith) in
    ap (lines_from n) (d ∙ ap (λ (t : List ℕ). get_or s i 0 ∷ t) e)

pub well_all : (n i : ℕ) (s : List ℕ) → length s ≤ i → lines_from n (drop i s) ≡ eqb n 0
well_all n i s h = at_drop_all (lines_from n) s i h

-- a turn at a byte of the content, where the next byte is 0 if there is none
pub well_at : (n i : ℕ) (s : List ℕ) → i < length s → lines_from n (drop i s) ≡ cond (eqb (get_or s i 0) 13) (cond (eqb (get_or s (i + 1) 0) 10) (lines_from 0 (drop (i + 1 + 1) s)) false) (cond (ltb n 998) (cond (plain (get_or s i 0)) (lines_from (n + 1) (drop (i + 1) s)) false) false)
well_at n i s h =
    elim (cases_lt (i + 1) (length s)) [
      | inl l ↦ well_two n i s l
      | inr l ↦
          let a = well_one n i s (omega arith) in
          let b = get_or_past s (i + 1) 0 l in
          let d = well_all (n + 1) (i + 1) s l in
          grind (arith, nat_tests)
    ]

-- what is refused breaks its form
pub refused : (s : List ℕ) (x : Refusal) → Err x ≡ checked s → (well_formed s ≡ false) × (x ≡ BadContent)
refused s x e = go (well_formed s) refl e
  where
    go : (b : Bool) → well_formed s ≡ b → Err x ≡ cond b (Ok (tt {0})) (Err BadContent) → (well_formed s ≡ false) × (x ≡ BadContent)
    go true w e = absurd (let z : ◌≡◌ {A = ℕ} 0 1 = cc in omega arith)
    go false w e = (w, (cc))

-- what is not refused has its form
pub accepted : (s : List ℕ) (x : Unit {0}) → Ok x ≡ checked s → well_formed s ≡ true
accepted s x e = go (well_formed s) refl e
  where
    go : (b : Bool) → well_formed s ≡ b → Ok x ≡ cond b (Ok (tt {0})) (Err BadContent) → well_formed s ≡ true
    go true w e = w
    go false w e = absurd (let z : ◌≡◌ {A = ℕ} 0 1 = cc in omega arith)
