-- Options read one after the other: what they say, by what those before have said.
use Rattle.std.proofs.Common.{◌≡◌, ℕ, Bool, true, false, cond, ◌&&◌, ◌||◌, eqb, fold, List, [], ◌∷◌, length, Option, Bor, sym, refl, ap, ◌∙◌, subst}
use Rattle.std.specs.Option.{MatchOption}
use Rattle.std.proofs.lemmas.Iterator.{YieldsList}
use Rattle.message.proofs.Chains.{next_is}
use Rattle.std.specs.List.{list_all, slice_split, onto_first}
use Rattle.smtp.specs.Bytes.{all, some}
use Rattle.smtp.specs.Parts.{first_part, other_parts}
use Rattle.message.specs.declared.mail_options.Count.{Count}
use Rattle.message.specs.declared.mail_options.Count.TheVariants.{Never, Once, Repeated}
use Rattle.message.specs.declared.mail_options.Options.{Options}
use Rattle.message.specs.MailLines.{option_form, is_known, is_require_tls, is_size, is_ret, twice}
use Rattle.message.specs.MailParts.{counted, is_seen, is_repeated, none_seen, seen, count_of, options_in}

pub all_holds : (test : ℕ → Bool) (s : List ℕ) → list_all test s ≡ all test s
all_holds test [] = refl
all_holds test (x ∷ s) = ap (λ b. test x && b) (all_holds test s)

-- the options that pass a test, counted one after the other
abbrev count_on : (List ℕ → Bool) → Count → List (List ℕ) → Count
count_on test = fold (λ c p. counted c (test p))

-- whether all pass, tested one after the other
abbrev all_on : (List ℕ → Bool) → Bool → List (List ℕ) → Bool
all_on test = fold (λ b p. b && test p)

fold_parts : (o : Options) (ps : List (List ℕ)) → fold seen o ps ≡ record {
  formed = all_on option_form o.formed ps;
  known = all_on is_known o.known ps;
  require_tls = count_on is_require_tls o.require_tls ps;
  size = count_on is_size o.size ps;
  ret = count_on is_ret o.ret ps;
}
fold_parts o [] = refl
fold_parts o (p ∷ ps) = fold_parts (seen o p) ps

all_more : (test : List ℕ → Bool) (b : Bool) (ps : List (List ℕ)) → all_on test b ps ≡ (b && all test ps)
all_more test true [] = refl
all_more test false [] = refl
all_more test true (p ∷ ps) = all_more test (test p) ps
all_more test false (p ∷ ps) = all_more test false ps

count_repeated : (test : List ℕ → Bool) (ps : List (List ℕ)) → count_on test Repeated ps ≡ Repeated
count_repeated test [] = refl
count_repeated test (p ∷ ps) = elim (test p) as (λ b. count_on test (counted Repeated b) ps ≡ Repeated) [ true ↦ count_repeated test ps | false ↦ count_repeated test ps ]

count_once : (test : List ℕ → Bool) (ps : List (List ℕ)) → count_on test Once ps ≡ cond (some test ps) Repeated Once
count_once test [] = refl
count_once test (p ∷ ps) =
    elim (test p) as (λ b. count_on test (counted Once b) ps ≡ cond (b || some test ps) Repeated Once) [ true ↦ count_repeated test ps | false ↦ count_once test ps ]

-- where two pass, one does
one_of_two : (test : List ℕ → Bool) (ps : List (List ℕ)) → (some test ps || twice test ps) ≡ some test ps
one_of_two test [] = refl
one_of_two test (p ∷ ps) =
    elim (test p) as (λ b. ((b || some test ps) || ((b && some test ps) || twice test ps)) ≡ (b || some test ps)) [ true ↦ refl | false ↦ one_of_two test ps ]

count_is : (test : List ℕ → Bool) (ps : List (List ℕ)) → count_on test Never ps ≡ count_of test ps
count_is test [] = refl
count_is test (p ∷ ps) =
    elim (test p) as (λ b. count_on test (counted Never b) ps ≡ cond ((b && some test ps) || twice test ps) Repeated (cond (b || some test ps) Once Never)) [
      | true ↦ count_once test ps ∙ ap (λ b. cond b Repeated Once) (sym (one_of_two test ps))
      | false ↦ count_is test ps
    ]

-- what the count says: whether one or more pass, and whether two or more do
pub seen_is : (test : List ℕ → Bool) (ps : List (List ℕ)) → is_seen (count_of test ps) ≡ some test ps
seen_is test ps = by (some test ps) (twice test ps) ∙ one_of_two test ps
  where
    by : (s t : Bool) → is_seen (cond t Repeated (cond s Once Never)) ≡ (s || t)
    by true true = refl
    by true false = refl
    by false true = refl
    by false false = refl

pub repeated_is : (test : List ℕ → Bool) (ps : List (List ℕ)) → is_repeated (count_of test ps) ≡ twice test ps
repeated_is test ps = by (some test ps) (twice test ps)
  where
    by : (s t : Bool) → is_repeated (cond t Repeated (cond s Once Never)) ≡ t
    by true true = refl
    by true false = refl
    by false true = refl
    by false false = refl

-- the options behind a path, seen one after the other
fold_options : (tail : List ℕ) → fold seen (none_seen (eqb (length (first_part 32 tail)) 0)) (other_parts 32 tail) ≡ options_in tail
fold_options tail =
    let formed = eqb (length (first_part 32 tail)) 0 in
    let ps = other_parts 32 tail in
    let a = all_more option_form formed ps in
    let b = all_more is_known true ps in
    let d = count_is is_require_tls ps in
    let e = count_is is_size ps in
    let f = count_is is_ret ps in
    fold_parts (none_seen formed) ps ∙ (λ i. record { formed = a i; known = b i; require_tls = d i; size = e i; ret = f i })

-- a text taken apart at its blanks
split_parts : (tail : List ℕ) → slice_split (λ b. eqb b 32) tail ≡ first_part 32 tail ∷ other_parts 32 tail
split_parts [] = refl
split_parts (x ∷ s) =
    let e = ap (λ ps. cond (eqb x 32) ([] ∷ ps) (onto_first x ps)) (split_parts s) in
    e ∙ elim (eqb x 32) as (λ b. cond b ([] ∷ first_part 32 s ∷ other_parts 32 s) ((x ∷ first_part 32 s) ∷ other_parts 32 s) ≡ cond b [] (x ∷ first_part 32 s) ∷ cond b (first_part 32 s ∷ other_parts 32 s) (other_parts 32 s)) [ true ↦ refl | false ↦ refl ]

-- the first part taken by a call of its own, and the options among the others
pub read_is : {S : Type 0} {steps : S → Option (Bor (List ℕ)) → S → Type 0} {s : S} (tail : List ℕ) (r : Option (Bor (List ℕ))) (t : S) (formed : Bool) (options : Options) → steps s r t →
    YieldsList steps (λ x. x.now) s (slice_split (λ b. eqb b 32) tail) → MatchOption r (formed ≡ false) (λ x. formed ≡ eqb (length x.now) 0) →
    (YieldsList steps (λ x. x.now) t (other_parts 32 tail) → options ≡ fold seen (none_seen formed) (other_parts 32 tail)) → options ≡ options_in tail
read_is tail r t formed options k y f h =
    let (x, e, g, others) = next_is r t k y (split_parts tail) in
    let i : formed ≡ eqb (length (first_part 32 tail)) 0 = subst (λ r. MatchOption r (formed ≡ false) (λ x. formed ≡ eqb (length x.now) 0)) e f ∙ ap (λ p. eqb (length p) 0) g in
    h others ∙ ap (λ b. fold seen (none_seen b) (other_parts 32 tail)) i ∙ fold_options tail
