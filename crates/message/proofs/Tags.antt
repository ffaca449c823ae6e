-- The fields of a header one by one, and the tag that they settle.
use Rattle.std.proofs.Common.{◌≡◌, ℕ, ◌+◌, ◌≤◌, Bool, true, false, cond, not, ltb, filter, take_while, List, [], ◌∷◌, ◌++◌, length, take, drop, unwrap_or, Some, None as Nothing, Ok, Err, Option, Bor, sym, refl, ap, ◌∙◌, subst, arith}
use Rattle.std.specs.List.{position_or_len}
use Rattle.std.proofs.lemmas.Iterator.{YieldsList}
use Rattle.std.proofs.lemmas.List.{append_assoc, append-nil, length-append}
use Rattle.std.proofs.lemmas.List.Sums.{take_while-cons}
use Rattle.std.proofs.Math.Seq.{take-append-add, drop-append-add}
use Rattle.std.proofs.lemmas.Bool.Decides.{nat_tests}
use Rattle.smtp.specs.declared.refusal.Refusal.TheVariants.{RepeatedTlsRequired}
use Rattle.message.specs.declared.tag.Tag.TheVariants.{None}
use Rattle.message.specs.Lines.{lines_of, joined, header}
use Rattle.message.specs.Tags.{folded, fields_from, fields, is_tls_required, tls_required, white, behind_white, field_tag, tag_of}
use Rattle.message.specs.TagsHold.{TagsHold}
use Rattle.message.proofs.Chains.{none_left, first_left}
use Rattle.message.proofs.Lined.{joined_lines, line_front, front_some}

-- how many bytes the folded lines at the front take
abbrev pub folded_len : List (List ℕ) → ℕ
folded_len ls = length (joined (take_while folded ls))

folded_len_cons : (l : List ℕ) (ls : List (List ℕ)) → folded_len (l ∷ ls) ≡ cond (folded l) (length l + folded_len ls) 0
folded_len_cons l ls =
    ap (λ ms. length (joined ms)) (take_while-cons folded l ls)
    ∙ elim (folded l) as (λ b. length (joined (cond b (l ∷ take_while folded ls) [])) ≡ cond b (length l + folded_len ls) 0) [ true ↦ length-append l (joined (take_while folded ls)) | false ↦ refl ]

-- a field takes n bytes of a text behind what it has, and the other fields are those of what is left
abbrev Takes : List (List ℕ) → List ℕ → List ℕ → ℕ → Type 0
Takes fs f t n = (n ≤ length t) × (fs ≡ (f ++ take n t) ∷ fields (lines_of (drop n t)))

-- a field takes the folded lines that stand next
folded_take : (f t : List ℕ) (ls : List (List ℕ)) → lines_of t ≡ ls → Takes (fields_from f ls) f t (folded_len ls)
folded_take f t [] e =
    let n : [] ≡ t = ap joined (sym e) ∙ joined_lines t in
    subst (λ t. Takes (f ∷ []) f t 0) n (omega arith, ap (λ g. g ∷ []) (sym (append-nil f)))
folded_take f t (l ∷ ls) e =
    let (u, g, h) = line_front t l ls e in
    let i = folded_take (f ++ l) u ls h in
    subst (λ n. Takes (fields_from f (l ∷ ls)) f t n) (sym (folded_len_cons l ls))
    (elim (folded l) as (λ b. Takes (cond b (fields_from (f ++ l) ls) (f ∷ fields_from l ls)) f t (cond b (length l + folded_len ls) 0)) [
      | true ↦ (
        (let a = ap length g in let b = i.0 in omega (arith, length-append l u)),
        i.1
            ∙ (λ k. append_assoc f l (take (folded_len ls) u) k ∷ fields (lines_of (drop (folded_len ls) u)))
            ∙ (λ k. (f ++ sym (take-append-add l u (folded_len ls)) k) ∷ fields (lines_of (sym (drop-append-add l u (folded_len ls)) k)))
            ∙ ap (λ t. (f ++ take (length l + folded_len ls) t) ∷ fields (lines_of (drop (length l + folded_len ls) t))) (sym g),
      )
      | false ↦ (omega arith, (λ k. sym (append-nil f) k ∷ fields (sym e k)))
    ])

-- the field at the front: its first line and the folded lines behind it
pub next_field : (s first t field behind : List ℕ) (n : ℕ) → lines_of s ≡ first ∷ lines_of t → n ≡ folded_len (lines_of t) → field ≡ take (length first + n) s → behind ≡ drop (length first + n) s →
    fields (lines_of s) ≡ field ∷ fields (lines_of behind)
next_field s first t field behind n e f g h =
    let a = (folded_take first t (lines_of t) refl).1 in
    let (b, d) = front_some s first t e in
    ap fields e ∙ a
    ∙ (λ k. (first ++ take (sym f k) t) ∷ fields (lines_of (drop (sym f k) t)))
    ∙ (λ k. sym (take-append-add first t n) k ∷ fields (lines_of (sym (drop-append-add first t n) k)))
    ∙ ap (λ s. take (length first + n) s ∷ fields (lines_of (drop (length first + n) s))) (sym d)
    ∙ (λ k. sym g k ∷ fields (lines_of (sym h k)))

-- the white space at the front ends at the first byte that is none
behind_holds : (s : List ℕ) → (position_or_len (λ x. not (white x)) s ≤ length s) × (drop (position_or_len (λ x. not (white x)) s) s ≡ behind_white s)
behind_holds [] = (omega arith, refl)
behind_holds (x ∷ s) =
    let (b, e) = behind_holds s in
    let n = position_or_len (λ x. not (white x)) s in
    elim (white x) as (λ w. (cond (not (not w)) (1 + n) 0 ≤ length (x ∷ s)) × (drop (cond (not (not w)) (1 + n) 0) (x ∷ s) ≡ cond w (behind_white s) (x ∷ s))) [
      | true ↦ (omega arith, drop-append-add (x ∷ []) s n ∙ e)
      | false ↦ (omega arith, refl)
    ]

pub behind_at : (s : List ℕ) (r : Option ℕ) → (let n = position_or_len (λ x. not (white x)) s in r ≡ cond (ltb n (length s)) (Some n) Nothing) → drop (unwrap_or r (length s)) s ≡ behind_white s
behind_at s r e =
    let n = position_or_len (λ x. not (white x)) s in
    let (b, f) = behind_holds s in
    let by : (t : Bool) → ltb n (length s) ≡ t → unwrap_or (cond t (Some n) Nothing) (length s) ≡ n =
    λ t g. elim t as (λ t. ltb n (length s) ≡ t → unwrap_or (cond t (Some n) Nothing) (length s) ≡ n) [ true ↦ λ g. refl | false ↦ λ g. grind (arith, nat_tests) ] g in
    ap (λ k. drop k s) (ap (λ r. unwrap_or r (length s)) e ∙ by (ltb n (length s)) refl) ∙ f

-- the TLS-Required fields
required_is : (fs : List (List ℕ)) → tls_required fs ≡ filter is_tls_required fs
required_is [] = refl
required_is (f ∷ fs) = ap (λ gs. cond (is_tls_required f) (f ∷ gs) gs) (required_is fs)

-- the tag by what two calls for such a field give
module _ {S : Type 0} {steps : S → Option (Bor (List ℕ)) → S → Type 0} {s : S} (fs : List (List ℕ)) (r : Option (Bor (List ℕ))) (t : S) (k : steps s r t) (e : YieldsList steps (λ x. x.now) s (filter is_tls_required fs)) where
  pub no_field : r ≡ Nothing → Ok None ≡ tag_of (tls_required fs)
  no_field n = sym (ap tag_of (required_is fs ∙ none_left (filter is_tls_required fs) r t k e n))

  pub one_field : (x : Bor (List ℕ)) (q : Option (Bor (List ℕ))) (u : S) → r ≡ Some x → steps t q u → q ≡ Nothing → Ok (field_tag x.now) ≡ tag_of (tls_required fs)
  one_field x q u n l m =
      let (ys, f, others) = first_left (filter is_tls_required fs) r x t k e n in
      sym (ap tag_of (required_is fs ∙ f ∙ ap (λ ys. x.now ∷ ys) (none_left ys q u l others m)))

  pub two_fields : (x y : Bor (List ℕ)) (q : Option (Bor (List ℕ))) (u : S) → r ≡ Some x → steps t q u → q ≡ Some y → Err RepeatedTlsRequired ≡ tag_of (tls_required fs)
  two_fields x y q u n l m =
      let (ys, f, others) = first_left (filter is_tls_required fs) r x t k e n in
      let (zs, g, more) = first_left ys q y u l others m in
      sym (ap tag_of (required_is fs ∙ f ∙ ap (λ ys. x.now ∷ ys) g))

-- no byte of the lines is lost, and none comes twice
joined_from : (f : List ℕ) (ls : List (List ℕ)) → joined (fields_from f ls) ≡ f ++ joined ls
joined_from f [] = refl
joined_from f (l ∷ ls) =
    go (folded l) (joined_from (f ++ l) ls ∙ append_assoc f l (joined ls)) (ap (λ (t : List ℕ). f ++ t) (joined_from l ls))
  where
    go : (b : Bool) → joined (fields_from (f ++ l) ls) ≡ f ++ (l ++ joined ls) → joined (f ∷ fields_from l ls) ≡ f ++ (l ++ joined ls) →
        joined (cond b (fields_from (f ++ l) ls) (f ∷ fields_from l ls)) ≡ f ++ (l ++ joined ls)
    go true p q = p
    go false p q = q

joined_fields : (ls : List (List ℕ)) → joined (fields ls) ≡ joined ls
joined_fields [] = refl
joined_fields (l ∷ ls) = joined_from l ls

pub tags_hold : TagsHold
tags_hold = record {
  whole = λ s. joined_fields (lines_of (header s)) ∙ joined_lines (header s);
  nothing = refl;
  first = refl;
  last = refl;
  small = refl;
  over = refl;
  blank = refl;
  longer = refl;
  goes_on = refl;
  empty = refl;
  twice = refl;
  once = refl;
  behind = refl;
  inside = refl;
  before = refl;
  option = refl;
  broken = refl;
}
