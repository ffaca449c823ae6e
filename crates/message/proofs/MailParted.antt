-- A MAIL line taken apart step by step.
use Rattle.std.proofs.Common.{◌≡◌, ℕ, ◌+◌, ◌-◌, ◌<◌, Bool, true, false, cond, not, ◌&&◌, eqb, ltb, List, [], ◌∷◌, length, take, drop, Option, Some, None, sym, refl, ap, ◌∙◌, arith, length-take}
use Rattle.std.proofs.lemmas.Bool.Decides.{nat_tests}
use Rattle.std.proofs.lemmas.Bool.{true≢false, and_parts}
use Rattle.std.specs.List.{position_or_len}
use Rattle.std.specs.Cmp.Lexicographic.{pointwise}
use Rattle.smtp.specs.Bytes.{same}
use Rattle.smtp.specs.Parts.{first_part, behind_first}
use Rattle.smtp.specs.Replies.{crlf_first}
use Rattle.smtp.proofs.Parted.{part_len, take_first, drop_behind}
use Rattle.message.specs.MailLines.{mail_from, inner, path_of, tail_of, ends}
use Rattle.message.specs.MailParts.{command_of}

-- a value that is there where a test says so
pub some_cond : {A : Type 0} (b : Bool) (x y : A) → Some y ≡ cond b (Some x) None → (b ≡ true) × (y ≡ x)
some_cond true x y e = (refl, cc)
some_cond false x y e = absurd (let z : ◌≡◌ {A = ℕ} 0 1 = cc in omega arith)

none_cond : {A : Type 0} (b : Bool) (x : A) → b ≡ false → None ≡ cond b (Some x) None
none_cond true x e = absurd (let z : ◌≡◌ {A = ℕ} 0 1 = cc in omega arith)
none_cond false x e = refl

-- a value that is missing where a test fails
pub none_test : {A : Type 0} (b : Bool) (x : A) → None ≡ cond b (Some x) None → b ≡ false
none_test true x e = absurd (let z : ◌≡◌ {A = ℕ} 0 1 = cc in omega arith)
none_test false x e = refl

is_false : (b : Bool) → (b ≡ true → ⊥) → b ≡ false
is_false true h = absurd (h refl)
is_false false h = refl

and_false : (a b : Bool) → b ≡ false → (a && b) ≡ false
and_false true b e = e
and_false false b e = refl

same_length : (a b : List ℕ) → same a b ≡ true → length a ≡ length b
same_length [] [] e = refl
same_length [] (y ∷ b) e = absurd (true≢false (sym e))
same_length (x ∷ a) [] e = absurd (true≢false (sym e))
same_length (x ∷ a) (y ∷ b) e = let i = same_length a b (and_parts _ _ e).1 in omega arith

crlf_alone : (s : List ℕ) → pointwise eqb s (13 ∷ 10 ∷ []) ≡ true → crlf_first s ≡ true
crlf_alone [] e = absurd (true≢false (sym e))
crlf_alone (x ∷ []) e = grind (arith, nat_tests)
crlf_alone (x ∷ (y ∷ s)) e = grind (arith, nat_tests)

-- where the first `>` stands, or the end
close_at : (s : List ℕ) → position_or_len (λ b. eqb b 62) s ≡ part_len 62 s
close_at [] = refl
close_at (x ∷ s) = let e = close_at s in elim (eqb x 62) as (λ b. cond (not b) (1 + position_or_len (λ b. eqb b 62) s) 0 ≡ length (cond b [] (x ∷ first_part 62 s))) [ true ↦ refl | false ↦ omega arith ]

-- the line is too short for its first words
pub short_body : (line body : List ℕ) → body ≡ take (length line - 2) line → length body < 11 → None ≡ command_of line
short_body line body e h =
    let f = is_false (same (take 11 (take (length line - 2) line)) mail_from) (λ s. let l = same_length (take 11 (take (length line - 2) line)) mail_from s in let k = ap length e in omega (arith, length-take 11 (take (length line - 2) line))) in
    none_cond _ _ (grind (arith, nat_tests))

-- no `>` stands behind the path
pub no_close : (line body mid : List ℕ) (r : Option ℕ) → body ≡ take (length line - 2) line → mid ≡ drop 11 body → r ≡ None →
    (let n = position_or_len (λ b. eqb b 62) mid in r ≡ cond (ltb n (length mid)) (Some n) None) → None ≡ command_of line
no_close line body mid r e f g h =
    let i : mid ≡ inner line = f ∙ ap (drop 11) e in
    let t = none_test (ltb (position_or_len (λ b. eqb b 62) mid) (length mid)) (position_or_len (λ b. eqb b 62) mid) (sym g ∙ h) in
    none_cond _ _ (and_false (ends line) _ (sym (λ j. ltb ((close_at mid ∙ ap (part_len 62) i) j) (length (i j))) ∙ t))

pub command_is : (line body words mid path tail : List ℕ) (r : Option ℕ) (n : ℕ) → pointwise eqb (drop (length line - 2) line) (13 ∷ 10 ∷ []) ≡ true → body ≡ take (length line - 2) line → words ≡ take 11 body →
    same words mail_from ≡ true → mid ≡ drop 11 body → r ≡ Some n → (let n = position_or_len (λ b. eqb b 62) mid in r ≡ cond (ltb n (length mid)) (Some n) None) →
    path ≡ take n mid → tail ≡ drop (n + 1) mid → Some (path, tail) ≡ command_of line
command_is line body words mid path tail r n k e w v f g h p t =
    let i : mid ≡ inner line = f ∙ ap (drop 11) e in
    let (b, d) = some_cond (ltb (position_or_len (λ b. eqb b 62) mid) (length mid)) (position_or_len (λ b. eqb b 62) mid) n (sym g ∙ h) in
    let m : n ≡ part_len 62 mid = d ∙ close_at mid in
    let q : path ≡ path_of line = p ∙ simp m (take_first 62 mid) ∙ ap (first_part 62) i in
    let z : tail ≡ tail_of line = t ∙ simp m (drop_behind 62 mid) ∙ ap (behind_first 62) i in
    let l : ltb (length (path_of line)) (length (inner line)) ≡ true = sym (λ j. ltb ((close_at mid ∙ ap (part_len 62) i) j) (length (i j))) ∙ b in
    let u = crlf_alone (drop (length line - 2) line) k in
    let x : same (take 11 (take (length line - 2) line)) mail_from ≡ true = ap (λ s. same s mail_from) (sym (w ∙ ap (take 11) e)) ∙ v in
    let o : (ends line && ltb (length (path_of line)) (length (inner line))) ≡ true = grind (arith, nat_tests) in
    rw o (λ j. Some (q j, z j))
