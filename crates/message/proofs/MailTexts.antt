-- Words, paths and options as texts: what they lack, and how a text falls into parts again.
use Rattle.std.proofs.Common.{◌≡◌, ℕ, ◌+◌, ◌<◌, ◌≤◌, Bool, true, false, not, ◌&&◌, eqb, leb, List, [], ◌∷◌, ◌++◌, length, Decides, sym, refl, ap, ◌∙◌, inl, inr, arith}
use Rattle.std.proofs.lemmas.Bool.Decides.{nat_tests, Decides-and}
use Rattle.std.proofs.ByRecursion.{Decides-by_and}
use Rattle.std.proofs.lemmas.Bool.{true≢false, and_parts, and_from, leb-true, le-leb, eqb-true, eq-eqb, or_cases, or_right, cases_Bool}
use Rattle.std.proofs.lemmas.List.{append-nil, nil_from_length}
use Rattle.std.specs.List.{flat_map, AllByRecursion}
use Rattle.smtp.specs.Bytes.{within, lowered, same, all}
use Rattle.smtp.specs.Parts.{first_part, other_parts, behind_first}
use Rattle.smtp.specs.Names.{atom_byte, label_byte, dotted, host_name, address}
use Rattle.smtp.proofs.Named.{runs, runs_dotted}
use Rattle.message.specs.MailLines.{path_form, option_form}
use Rattle.message.specs.MailLinesHold.{Alike, PathText, OptionText}

-- words that are the same but for their letters' case
pub alike_same : (a b : List ℕ) → Alike a b → same a b ≡ true
alike_same [] [] e = refl
alike_same [] (y ∷ b) e = absurd (let z : ◌≡◌ {A = ℕ} 0 1 = cc in omega arith)
alike_same (x ∷ a) [] e = absurd (let z : ◌≡◌ {A = ℕ} 0 1 = cc in omega arith)
alike_same (x ∷ a) (y ∷ b) e =
    let f : lowered x ≡ lowered y = cc in
    let g : Alike a b = cc in
    and_from (eqb (lowered x) (lowered y)) (same a b) (eq-eqb (lowered x) (lowered y) f) (alike_same a b g)

pub same_alike : (a b : List ℕ) → same a b ≡ true → Alike a b
same_alike [] [] e = refl
same_alike [] (y ∷ b) e = absurd (true≢false (sym e))
same_alike (x ∷ a) [] e = absurd (true≢false (sym e))
same_alike (x ∷ a) (y ∷ b) e =
    let (f, g) = and_parts (eqb (lowered x) (lowered y)) (same a b) e in
    let h = eqb-true (lowered x) (lowered y) f in
    let i = same_alike a b g in
    cc

-- a text without a byte
abbrev pub lacks : ℕ → List ℕ → Bool
lacks sep s = all (λ x. not (eqb x sep)) s

-- in front of others it belongs to the first part
pub first_behind : (sep : ℕ) (p s : List ℕ) → lacks sep p ≡ true → first_part sep (p ++ s) ≡ p ++ first_part sep s
first_behind sep [] s e = refl
first_behind sep (x ∷ p) s e =
    let (f, g) = and_parts (not (eqb x sep)) (lacks sep p) e in
    let h = first_behind sep p s g in
    grind (arith, nat_tests)

pub others_behind : (sep : ℕ) (p s : List ℕ) → lacks sep p ≡ true → other_parts sep (p ++ s) ≡ other_parts sep s
others_behind sep [] s e = refl
others_behind sep (x ∷ p) s e =
    let (f, g) = and_parts (not (eqb x sep)) (lacks sep p) e in
    let h = others_behind sep p s g in
    grind (arith, nat_tests)

pub behind_behind : (sep : ℕ) (p s : List ℕ) → lacks sep p ≡ true → behind_first sep (p ++ s) ≡ behind_first sep s
behind_behind sep [] s e = refl
behind_behind sep (x ∷ p) s e =
    let (f, g) = and_parts (not (eqb x sep)) (lacks sep p) e in
    let h = behind_behind sep p s g in
    grind (arith, nat_tests)

-- a text with a separator, put together again
pub split_first : (sep : ℕ) (s : List ℕ) → length (first_part sep s) < length s → s ≡ first_part sep s ++ (sep ∷ behind_first sep s)
split_first sep [] h = absurd (omega arith)
split_first sep (x ∷ s) h =
    elim (cases_Bool (eqb x sep)) [
      | inl e ↦ let f = eqb-true x sep e in grind (arith, nat_tests)
      | inr e ↦ let i : length (first_part sep s) < length s = grind (arith, nat_tests) in let f = split_first sep s i in grind (arith, nat_tests)
    ]

-- options, each after one blank
abbrev pub blanked : List (List ℕ) → List ℕ
blanked options = flat_map (λ option. 32 ∷ option) options

pub split_options : (s : List ℕ) → s ≡ first_part 32 s ++ blanked (other_parts 32 s)
split_options [] = refl
split_options (x ∷ s) =
    let e = split_options s in
    elim (cases_Bool (eqb x 32)) [
      | inl f ↦ let g = eqb-true x 32 f in grind (arith, nat_tests)
      | inr f ↦ grind (arith, nat_tests)
    ]

-- dotted words lack any byte that is no dot and not of their kind
words_lack : (kind : ℕ → Bool) (most sep n : ℕ) (s : List ℕ) → (eqb 46 sep ≡ false) → ((x : ℕ) → kind x ≡ true → eqb x sep ≡ false) → runs kind most n s ≡ true → lacks sep s ≡ true
words_lack kind most sep n [] d k e = refl
words_lack kind most sep n (x ∷ s) d k e =
    elim (cases_Bool (eqb x 46)) [
      | inl f ↦
          let g = eqb-true x 46 f in
          let h : runs kind most 0 s ≡ true = grind (arith, nat_tests) in
          let i = words_lack kind most sep 0 s d k h in
          let j = ap (λ (y : ℕ). eqb y sep) g ∙ d in
          grind (arith, nat_tests)
      | inr f ↦
          let h : (kind x && runs kind most (n + 1) s) ≡ true = grind (arith, nat_tests) in
          let (a, b) = and_parts (kind x) (runs kind most (n + 1) s) h in
          let i = words_lack kind most sep (n + 1) s d k b in
          let j = k x a in
          grind (arith, nat_tests)
    ]

dotted_lack : (kind : ℕ → Bool) (most sep : ℕ) (s : List ℕ) → (eqb 46 sep ≡ false) → ((x : ℕ) → kind x ≡ true → eqb x sep ≡ false) → dotted kind most s ≡ true → lacks sep s ≡ true
dotted_lack kind most sep s d k e = words_lack kind most sep 0 s d k (runs_dotted kind most s ∙ e)

-- a byte that is not of a kind
not_of : (kind : ℕ → Bool) (sep : ℕ) → kind sep ≡ false → (x : ℕ) → kind x ≡ true → eqb x sep ≡ false
not_of kind sep n x e = elim (cases_Bool (eqb x sep)) [
  | inl f ↦ absurd (true≢false (sym e ∙ ap kind (eqb-true x sep f) ∙ n))
  | inr f ↦ f
]

-- the part before a separator and what is behind it
both_lack : (sep t : ℕ) (s : List ℕ) → eqb t sep ≡ false → lacks sep (first_part t s) ≡ true → lacks sep (behind_first t s) ≡ true → lacks sep s ≡ true
both_lack sep t [] d a b = refl
both_lack sep t (x ∷ s) d a b =
    elim (cases_Bool (eqb x t)) [
      | inl f ↦ let j = ap (λ (y : ℕ). eqb y sep) (eqb-true x t f) ∙ d in let g : lacks sep s ≡ true = grind (arith, nat_tests) in grind (arith, nat_tests)
      | inr f ↦
          let g : (not (eqb x sep) && lacks sep (first_part t s)) ≡ true = grind (arith, nat_tests) in
          let h : lacks sep (behind_first t s) ≡ true = grind (arith, nat_tests) in
          let (i, j) = and_parts (not (eqb x sep)) (lacks sep (first_part t s)) g in
          let k = both_lack sep t s d j h in
          grind (arith, nat_tests)
    ]

-- a `>` stands in no address
address_lacks : (s : List ℕ) → address s ≡ true → lacks 62 s ≡ true
address_lacks s e =
    let (a, p) = and_parts (leb (length (first_part 64 s)) 64) (dotted atom_byte 64 (first_part 64 s) && host_name (behind_first 64 s)) e in
    let (d, h) = and_parts (dotted atom_byte 64 (first_part 64 s)) (host_name (behind_first 64 s)) p in
    let (b, l) = and_parts (leb (length (behind_first 64 s)) 253) (dotted label_byte 63 (behind_first 64 s)) h in
    both_lack 62 64 s refl
    (dotted_lack atom_byte 64 62 (first_part 64 s) refl (not_of atom_byte 62 refl) d)
    (dotted_lack label_byte 63 62 (behind_first 64 s) refl (not_of label_byte 62 refl) l)

-- a path by its test
pub text_path : (path : List ℕ) → PathText path → path_form path ≡ true
text_path path (inl e) = ap path_form e
text_path path (inr e) = or_right (eqb (length path) 0) (address path) e

pub path_text : (path : List ℕ) → path_form path ≡ true → PathText path
path_text path e = elim (or_cases (eqb (length path) 0) (address path) e) [
  | inl f ↦ inl (nil_from_length path (eqb-true (length path) 0 f))
  | inr f ↦ inr f
]

pub path_lacks : (path : List ℕ) → PathText path → lacks 62 path ≡ true
path_lacks path (inl e) = ap (lacks 62) e
path_lacks path (inr e) = address_lacks path e

-- options by their test
visible : (x : ℕ) → Decides (within 33 x 126) ((33 ≤ x) × (x ≤ 126))
visible x = (
  (λ e. let (a, b) = and_parts (leb 33 x) (leb x 126) e in (leb-true 33 x a, leb-true x 126 b)),
  (λ h. and_from (leb 33 x) (leb x 126) (le-leb 33 x h.0) (le-leb x 126 h.1)),
)

one_option : (option : List ℕ) → Decides (option_form option) (OptionText option)
one_option option =
    Decides-and (leb 1 (length option)) (all (λ x. within 33 x 126) option)
    ((λ e. leb-true 1 (length option) e), (λ h. le-leb 1 (length option) h))
    (Decides-by_and (λ x. within 33 x 126) (λ x. (33 ≤ x) × (x ≤ 126)) (all (λ x. within 33 x 126)) visible refl (λ _ _. refl) option)

pub options_text : (options : List (List ℕ)) → Decides (all option_form options) (AllByRecursion OptionText options)
options_text options = Decides-by_and option_form OptionText (all option_form) one_option refl (λ _ _. refl) options

-- a blank stands in no option
option_lacks : (option : List ℕ) → AllByRecursion (λ x. (33 ≤ x) × (x ≤ 126)) option → lacks 32 option ≡ true
option_lacks [] h = refl
option_lacks (x ∷ option) (a, h) =
    let e = option_lacks option h in
    let f : eqb x 32 ≡ false = grind (arith, nat_tests) in
    grind (arith, nat_tests)

-- options fall into their parts again
pub blanked_first : (options : List (List ℕ)) → first_part 32 (blanked options) ≡ []
blanked_first [] = refl
blanked_first (o ∷ options) = refl

pub blanked_options : (options : List (List ℕ)) → AllByRecursion OptionText options → other_parts 32 (blanked options) ≡ options
blanked_options [] h = refl
blanked_options (o ∷ options) (a, h) =
    let l = option_lacks o a.1 in
    let e = blanked_options options h in
    let f = first_behind 32 o (blanked options) l ∙ ap (λ (t : List ℕ). o ++ t) (blanked_first options) ∙ append-nil o in
    let g = others_behind 32 o (blanked options) l ∙ e in
    cc
