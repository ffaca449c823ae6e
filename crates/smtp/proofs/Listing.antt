-- What a reply lists, as a walk over its lines sees it.
use Rattle.std.proofs.Common.{◌≡◌, ℕ, ◌+◌, ◌<◌, Bool, true, false, cond, ◌&&◌, eqb, List, [], ◌∷◌, length, drop, Some, None, Option, sym, refl, ap, ◌∙◌, inl, inr, arith}
use Rattle.std.proofs.lemmas.Bool.Decides.{nat_tests}
use Rattle.std.proofs.lemmas.List.{take_all}
use Rattle.std.proofs.lemmas.Bool.{cases_Bool, and_parts, eqb-true, eqb-false}
use Rattle.smtp.specs.Bytes.{same, some, all}
use Rattle.smtp.specs.Names.{label_byte}
use Rattle.smtp.specs.Parts.{first_part}
use Rattle.smtp.proofs.Parted.{take_first}
use Rattle.smtp.proofs.Wire.{front_more, front_none}
use Rattle.smtp.specs.Replies.{Line, line_at, size, front}
use Rattle.smtp.specs.Keywords.{Part, greeting, keyword, other, is_keyword, listing, text_place, part_of, part_in, part_at, size_in, next_at, lists_part, lists_word, listed_in, listed}

label_not_blank : (x : ℕ) → label_byte x ≡ true → eqb x 32 ≡ false
label_not_blank x e = grind (arith, nat_tests)

-- what has no blank is its own first part
no_blank : (w : List ℕ) → all label_byte w ≡ true → first_part 32 w ≡ w
no_blank [] e = refl
no_blank (x ∷ w) e =
    let p = and_parts (label_byte x) (all label_byte w) e in
    let f = no_blank w p.1 in
    let g = label_not_blank x p.0 in
    grind (arith, nat_tests)

keyword_labels : (w : List ℕ) → is_keyword w ≡ true → all label_byte w ≡ true
keyword_labels [] e = refl
keyword_labels (x ∷ w) e = grind (arith, nat_tests)

keyword_first : (w : List ℕ) → is_keyword w ≡ true → first_part 32 w ≡ w
keyword_first w e = no_blank w (keyword_labels w e)

whole_first : (text : List ℕ) → length (first_part 32 text) ≡ length text → first_part 32 text ≡ text
whole_first text e = sym (take_first 32 text) ∙ take_all (length (first_part 32 text)) text (omega arith)

-- a keyword is alone on its line where the line's text is a keyword
alone_is : (text word : List ℕ) →
    (is_keyword (first_part 32 text) && (eqb (length (first_part 32 text)) (length text) && same (first_part 32 text) word)) ≡ (is_keyword text && same text word)
alone_is text word =
    elim (cases_Bool (eqb (length (first_part 32 text)) (length text))) [
      | inl e ↦
          let q = whole_first text (eqb-true _ _ e) in
          ap (λ (t : List ℕ). is_keyword t && (eqb (length t) (length text) && same t word)) q ∙ (grind (arith, nat_tests))
      | inr e ↦
          let h : is_keyword text ≡ false = elim (cases_Bool (is_keyword text)) [
            | inl k ↦
                absurd (eqb-false _ _ e (ap length (keyword_first text k)))
            | inr k ↦ k
          ] in
          grind (arith, nat_tests)
    ]

listing_lists : (k a : Bool) (found text word : List ℕ) (place : ℕ) →
    lists_part word (cond k (keyword found place a) (other text place)) ≡ (k && (a && same found word))
listing_lists true a found text word place = refl
listing_lists false a found text word place = refl

first_lists : (b : Bool) (p q : List ℕ) (at : ℕ) (l : Part) (word : List ℕ) → lists_part word (cond b (greeting p at) l) ≡ cond b false (lists_part word l)
first_lists true p q at l word = refl
first_lists false p q at l word = refl

-- what a line lists, by the part that is handed out of it
part_lists : (at : ℕ) (l : Line) (word : List ℕ) → lists_part word (part_of at l) ≡ cond (eqb at 0) false (lists_word word l)
part_lists at l word =
    first_lists (eqb at 0) l.text [] (text_place at l) (listing l.text (text_place at l)) word
    ∙ ap (λ (b : Bool). cond (eqb at 0) false b)
    (listing_lists (is_keyword (first_part 32 l.text)) (eqb (length (first_part 32 l.text)) (length l.text)) (first_part 32 l.text) l.text word (text_place at l)
    ∙ alone_is l.text word)

-- the parts that are handed out of lines, the first of which begins at a place
abbrev pub parts_from : ℕ → List Line → List Part
parts_from at [] = []
parts_from at (l ∷ ls) = part_of at l ∷ parts_from (at + size l) ls

-- and of what a reply has from a place on
abbrev pub parts_at : List ℕ → ℕ → List Part
parts_at s at = parts_from at (front (drop at s))

-- behind the last line nothing is handed out
pub none_left : (s : List ℕ) (at : ℕ) → None ≡ part_at s at → length (parts_at s at) ≡ 0
none_left s at e = go (line_at (drop at s)) refl e
  where
    go : (o : Option Line) → line_at (drop at s) ≡ o → None ≡ part_in at o → length (parts_at s at) ≡ 0
    go None e q = ap (λ (ls : List Line). length (parts_from at ls)) (front_none (length (drop at s)) (drop at s) e)
    go (Some l) e q = absurd (let z : ◌≡◌ {A = ℕ} 0 1 = cc in omega arith)

-- and before it a line's part, and then those behind it
pub one_more : (s : List ℕ) (at at' : ℕ) (p : Part) → Some p ≡ part_at s at → at' ≡ next_at s at → parts_at s at ≡ p ∷ parts_at s at'
one_more s at at' p e n = go (line_at (drop at s)) refl e n
  where
    go : (o : Option Line) → line_at (drop at s) ≡ o → Some p ≡ part_in at o → at' ≡ at + size_in o → parts_at s at ≡ p ∷ parts_at s at'
    go None e q n = absurd (let z : ◌≡◌ {A = ℕ} 0 1 = cc in omega arith)
    go (Some l) e q n =
        let f = ap (parts_from at) (front_more s at l e) in
        let g : p ≡ part_of at l = cc in
        f ∙ ap (λ (x : Part). x ∷ parts_at s (at + size l)) (sym g) ∙ ap (λ (x : ℕ). p ∷ parts_at s x) (sym n)

-- the lines from the second on list what their parts do
later_list : (word : List ℕ) (at : ℕ) (ls : List Line) → 0 < at → some (lists_part word) (parts_from at ls) ≡ some (lists_word word) ls
later_list word at [] h = refl
later_list word at (l ∷ ls) h =
    let e = part_lists at l word in
    let f = later_list word (at + size l) ls (omega arith) in
    grind (arith, nat_tests)

pub parts_list : (s word : List ℕ) → some (lists_part word) (parts_at s 0) ≡ listed s word
parts_list s word = go (front s)
  where
    go : (ls : List Line) → some (lists_part word) (parts_from 0 ls) ≡ listed_in ls word
    go [] = refl
    go (l ∷ ls) = let e = part_lists 0 l word in let f = later_list word (size l) ls (omega arith) in grind (arith, nat_tests)
