-- A reply is its lines: what a line read off the front says of the bytes, and back.
use Rattle.std.proofs.Common.{◌≡◌, ℕ, zero, suc, ◌+◌, ◌≤◌, Bool, true, false, cond, not, ◌&&◌, eqb, leb, List, [], ◌∷◌, ◌++◌, length, take, drop, Some, None, Option, sym, refl, ap, ◌∙◌, subst, add_assoc, arith}
use Rattle.std.proofs.lemmas.Bool.Decides.{nat_tests}
use Rattle.std.proofs.lemmas.Bool.{and_parts, eqb-true, leb-true, true≢false, eq-eqb, le-leb, and_from}
use Rattle.std.proofs.lemmas.List.{append_assoc, append-nil, take-append-drop, length-append, length-take-le, drop_at, drop-drop, take_at, take-append-le, nil_from_length}
use Rattle.std.proofs.lemmas.List.Sums.{prefix_len-le-length}
use Rattle.smtp.specs.declared.reply_line.Separator.{Separator}
use Rattle.smtp.specs.declared.reply_line.Separator.TheVariants.{Hyphen, Blank, Missing}
use Rattle.smtp.specs.Bytes.{all}
use Rattle.smtp.specs.Replies.{Line, code_digits, code_of, text_byte, text_len, crlf_first, text_line, bare_line, behind_code, line_at, is_last, width, size, front_in, front_by, front, closes, total, code_in, reply_code, in_form, well_formed}
use Rattle.smtp.specs.Keywords.{Part, part_in, part_of, text_place, is_keyword}
use Rattle.smtp.specs.RepliesHold.{mark, wire, spelled, Inner, Final, Ends, Each, Formed, part_bytes, part_place, RepliesHold}
use Rattle.smtp.specs.Parts.{first_part}
use Rattle.smtp.proofs.Parted.{take_first, part_within}
use Rattle.smtp.proofs.Wire.{front_nil, front_none}
use Rattle.smtp.proofs.Reading.{first_code}

some_cond : (b : Bool) (x : Option Line) (l : Line) → cond b x None ≡ Some l → (b ≡ true) × (x ≡ Some l)
some_cond true x l e = (refl, e)
some_cond false x l e = absurd (let z : ◌≡◌ {A = ℕ} 0 1 = cc in omega arith)

text_all : (s : List ℕ) → all text_byte (take (text_len s) s) ≡ true
text_all [] = refl
text_all (x ∷ s) = more (text_byte x) refl (text_all s)
  where
    more : (b : Bool) → text_byte x ≡ b → all text_byte (take (text_len s) s) ≡ true → all text_byte (take (cond b (1 + text_len s) 0) (x ∷ s)) ≡ true
    more true e h =
        let n : 1 + text_len s ≡ suc (text_len s) = omega arith in
        ap (λ (m : ℕ). all text_byte (take m (x ∷ s))) n ∙ and_from (text_byte x) (all text_byte (take (text_len s) s)) e h
    more false e h = refl

crlf_shape : (s : List ℕ) → crlf_first s ≡ true → s ≡ 13 ∷ 10 ∷ drop 2 s
crlf_shape [] e = absurd (true≢false (sym e))
crlf_shape (x ∷ []) e = let f : crlf_first (x ∷ []) ≡ false = grind (arith, nat_tests) in absurd (true≢false (sym e ∙ f))
crlf_shape (x ∷ y ∷ s) e =
    let p = and_parts (eqb x 13) (eqb y 10) e in
    let u = eqb-true x 13 p.0 in
    let v = eqb-true y 10 p.1 in
    cc

-- what a line read off the front says of the bytes
pub record Spells (s : List ℕ) (l : Line) : Type 0 where
  pub a : ℕ
  pub b : ℕ
  pub c : ℕ
  pub rest : List ℕ
  pub digits : code_digits a b c ≡ true
  pub coded : l.code ≡ code_of a b c
  pub texts : all text_byte l.text ≡ true
  pub few : length (wire a b c l) ≤ 512
  pub bare : l.separator ≡ Missing → l.text ≡ []
  pub is : s ≡ wire a b c l ++ rest

-- a text up to its CRLF
text_cut : (s : List ℕ) → crlf_first (drop (text_len s) s) ≡ true → s ≡ (take (text_len s) s ++ 13 ∷ 10 ∷ []) ++ drop 2 (drop (text_len s) s)
text_cut s e =
    sym (take-append-drop (text_len s) s) ∙ ap (λ (t : List ℕ). take (text_len s) s ++ t) (crlf_shape (drop (text_len s) s) e)
    ∙ sym (append_assoc (take (text_len s) s) (13 ∷ 10 ∷ []) (drop 2 (drop (text_len s) s)))

mark_short : (sep : Separator) → length (mark sep) ≤ 1
mark_short Hyphen = omega arith
mark_short Blank = omega arith
mark_short Missing = omega arith

-- a line with a separator and text
text_spells : (a b c : ℕ) (sep : Separator) (s : List ℕ) (l : Line) → code_digits a b c ≡ true → (sep ≡ Missing → ⊥) →
    text_line (code_of a b c) sep s ≡ Some l → Spells (a ∷ b ∷ c ∷ (mark sep ++ s)) l
text_spells a b c sep s l dig full e =
    let (t, q) = some_cond (crlf_first (drop (text_len s) s) && leb (text_len s) 506) _ l e in
    let (t1, t2) = and_parts (crlf_first (drop (text_len s) s)) (leb (text_len s) 506) t in
    let text = take (text_len s) s in
    let rest = drop 2 (drop (text_len s) s) in
    let f : record { code = code_of a b c; separator = sep; text = text } ≡ l = cc in
    subst (Spells (a ∷ b ∷ c ∷ (mark sep ++ s))) f (record {
      a = a;
      b = b;
      c = c;
      rest = rest;
      digits = dig;
      coded = refl;
      texts = text_all s;
      few = simp length-append (omega (arith, mark_short sep, length-take-le (text_len s) s (prefix_len-le-length text_byte s), leb-true (text_len s) 506 t2));
      bare = λ m. absurd (full m);
      is = ap (λ (x : List ℕ). a ∷ b ∷ c ∷ (mark sep ++ x)) (text_cut s t1) ∙ ap (λ (x : List ℕ). a ∷ b ∷ c ∷ x) (sym (append_assoc (mark sep) (text ++ 13 ∷ 10 ∷ []) rest));
    })

-- a line of its code alone
bare_spells : (a b c : ℕ) (s : List ℕ) (l : Line) → code_digits a b c ≡ true → bare_line (code_of a b c) s ≡ Some l → Spells (a ∷ b ∷ c ∷ s) l
bare_spells a b c s l dig e =
    let (t, q) = some_cond (crlf_first s) _ l e in
    let f : record { code = code_of a b c; separator = Missing; text = [] } ≡ l = cc in
    subst (Spells (a ∷ b ∷ c ∷ s)) f (record {
      a = a;
      b = b;
      c = c;
      rest = drop 2 s;
      digits = dig;
      coded = refl;
      texts = refl;
      few = omega arith;
      bare = λ m. refl;
      is = ap (λ (x : List ℕ). a ∷ b ∷ c ∷ x) (crlf_shape s t);
    })

hyphen_full : Hyphen ≡ Missing → ⊥
hyphen_full e = let z : ◌≡◌ {A = ℕ} 0 1 = cc in omega arith

blank_full : Blank ≡ Missing → ⊥
blank_full e = let z : ◌≡◌ {A = ℕ} 0 1 = cc in omega arith

behind_spells : (a b c d : ℕ) (s : List ℕ) (l : Line) → code_digits a b c ≡ true → (h k : Bool) → eqb d 45 ≡ h → eqb d 32 ≡ k →
    cond h (text_line (code_of a b c) Hyphen s) (cond k (text_line (code_of a b c) Blank s) (bare_line (code_of a b c) (d ∷ s))) ≡ Some l → Spells (a ∷ b ∷ c ∷ d ∷ s) l
behind_spells a b c d s l dig true k p q e =
    subst (λ (x : ℕ). Spells (a ∷ b ∷ c ∷ x ∷ s) l) (sym (eqb-true d 45 p)) (text_spells a b c Hyphen s l dig hyphen_full e)
behind_spells a b c d s l dig false true p q e =
    subst (λ (x : ℕ). Spells (a ∷ b ∷ c ∷ x ∷ s) l) (sym (eqb-true d 32 q)) (text_spells a b c Blank s l dig blank_full e)
behind_spells a b c d s l dig false false p q e = bare_spells a b c (d ∷ s) l dig e

-- what a line read off the front says
line_spells : (s : List ℕ) (l : Line) → line_at s ≡ Some l → Spells s l
line_spells [] l e = absurd (let z : ◌≡◌ {A = ℕ} 0 1 = cc in omega arith)
line_spells (a ∷ []) l e = absurd (let z : ◌≡◌ {A = ℕ} 0 1 = cc in omega arith)
line_spells (a ∷ b ∷ []) l e = absurd (let z : ◌≡◌ {A = ℕ} 0 1 = cc in omega arith)
line_spells (a ∷ b ∷ c ∷ []) l e = absurd (let z : ◌≡◌ {A = ℕ} 0 1 = cc in omega arith)
line_spells (a ∷ b ∷ c ∷ d ∷ s) l e =
    let (dig, q) = some_cond (code_digits a b c) (behind_code (code_of a b c) d s) l e in
    behind_spells a b c d s l dig (eqb d 45) (eqb d 32) refl refl q

-- a line takes as many bytes as it is long
mark_width : (sep : Separator) → length (mark sep) ≡ width sep
mark_width Hyphen = refl
mark_width Blank = refl
mark_width Missing = refl

wire_size : (a b c : ℕ) (l : Line) → length (wire a b c l) ≡ size l
wire_size a b c l = simp length-append (omega (arith, mark_width l.separator))

-- a code has one spelling
one_spelling : (a b c a' b' c' : ℕ) → code_digits a b c ≡ true → code_digits a' b' c' ≡ true → code_of a b c ≡ code_of a' b' c' → (a ≡ a') × (b ≡ b') × (c ≡ c')
one_spelling a b c a' b' c' p q e = (grind (arith, nat_tests), grind (arith, nat_tests), grind (arith, nat_tests))

-- a line without a separator has no text
abbrev Bares : List Line → Type 0
Bares [] = Unit {0}
Bares (l ∷ ls) = (l.separator ≡ Missing → l.text ≡ []) × Bares ls

-- what the lines at the front say, where they bear the code of these digits
record Front (a b c : ℕ) (s : List ℕ) (ls : List Line) : Type 0 where
  rest : List ℕ
  each : Each a b c ls
  bare : Bares ls
  is : s ≡ spelled a b c ls ++ rest

rest_is : (a b c : ℕ) (l : Line) (s rest : List ℕ) → s ≡ wire a b c l ++ rest → drop (size l) s ≡ rest
rest_is a b c l s rest e = ap (drop (size l)) e ∙ drop_at (wire a b c l) rest (size l) (wire_size a b c l)

-- a line in front of others, by its spelling
front_more : (a b c : ℕ) (s : List ℕ) (l : Line) (ls : List Line) → code_digits a b c ≡ true → l.code ≡ code_of a b c →
    Spells s l → Front a b c (drop (size l) s) ls → Front a b c s (l ∷ ls)
front_more a b c s l ls dig q sp f =
    let (x, y, z) = one_spelling sp.a sp.b sp.c a b c sp.digits dig (sym sp.coded ∙ q) in
    let w : wire sp.a sp.b sp.c l ≡ wire a b c l = cc in
    let i : s ≡ wire a b c l ++ sp.rest = sp.is ∙ ap (λ (t : List ℕ). t ++ sp.rest) w in
    let r = sym (rest_is a b c l s sp.rest i) ∙ f.is in
    record {
      rest = f.rest;
      each = (q, sp.texts, subst (λ (t : List ℕ). length t ≤ 512) w sp.few, f.each);
      bare = (sp.bare, f.bare);
      is = i ∙ ap (λ (t : List ℕ). wire a b c l ++ t) r ∙ sym (append_assoc (wire a b c l) (spelled a b c ls) f.rest);
    }

front_in_holds : (n a b c : ℕ) (s : List ℕ) → code_digits a b c ≡ true →
    ((t : List ℕ) → all (λ l. eqb l.code (code_of a b c)) (front_by n t) ≡ true → Front a b c t (front_by n t)) →
    (o : Option Line) → line_at s ≡ o → all (λ l. eqb l.code (code_of a b c)) (front_in o s (front_by n)) ≡ true → Front a b c s (front_in o s (front_by n))
front_in_holds n a b c s dig more None e k = record { rest = s; each = tt; bare = tt; is = refl }
front_in_holds n a b c s dig more (Some l) e k =
    let (p, q) = and_parts (eqb l.code (code_of a b c)) (all (λ m. eqb m.code (code_of a b c)) (front_by n (drop (size l) s))) k in
    front_more a b c s l (front_by n (drop (size l) s)) dig (eqb-true l.code (code_of a b c) p) (line_spells s l e) (more (drop (size l) s) q)

front_spells : (n a b c : ℕ) (s : List ℕ) → code_digits a b c ≡ true → all (λ l. eqb l.code (code_of a b c)) (front_by n s) ≡ true → Front a b c s (front_by n s)
front_spells zero a b c s dig h = record { rest = s; each = tt; bare = tt; is = refl }
front_spells (suc n) a b c s dig h = front_in_holds n a b c s dig (λ t k. front_spells n a b c t dig k) (line_at s) refl h

-- the lines' length is that of their spelling
spelled_total : (a b c : ℕ) (ls : List Line) → length (spelled a b c ls) ≡ total ls
spelled_total a b c [] = refl
spelled_total a b c (l ∷ ls) = length-append (wire a b c l) (spelled a b c ls) ∙ omega (arith, wire_size a b c l, spelled_total a b c ls)

final_of : (sep : Separator) (text : List ℕ) → is_last sep ≡ true → (sep ≡ Missing → text ≡ []) → Final sep text
final_of Hyphen text e h = absurd (true≢false (sym e))
final_of Blank text e h = tt
final_of Missing text e h = h refl

inner_of : (sep : Separator) → not (is_last sep) ≡ true → Inner sep
inner_of Hyphen e = tt
inner_of Blank e = absurd (true≢false (sym e))
inner_of Missing e = absurd (true≢false (sym e))

ends_of : (ls : List Line) → closes ls ≡ true → Bares ls → Ends ls
ends_of [] e h = absurd (true≢false (sym e))
ends_of (l ∷ []) e h = final_of l.separator l.text e h.0
ends_of (l ∷ m ∷ ls) e h =
    let (p, q) = and_parts (not (is_last l.separator)) (closes (m ∷ ls)) e in (inner_of l.separator p, ends_of (m ∷ ls) q h.1)

-- the lines that were read, put together again, are the reply
forth : (s : List ℕ) → well_formed s ≡ true → Formed s (front s)
forth s w =
    let (p, qr) = and_parts (closes (front s)) _ w in
    let (q, r) = and_parts (all (λ l. eqb l.code (reply_code s)) (front s)) (eqb (total (front s)) (length s)) qr in
    go (line_at s) refl p q (eqb-true (total (front s)) (length s) r)
  where
    go : (o : Option Line) → line_at s ≡ o → closes (front s) ≡ true → all (λ l. eqb l.code (reply_code s)) (front s) ≡ true → total (front s) ≡ length s → Formed s (front s)
    go None e p q r = let z = front_none (length s) s e in absurd (true≢false (sym p ∙ ap closes z))
    go (Some l) e p q r =
        let sp = line_spells s l e in
        let k : reply_code s ≡ code_of sp.a sp.b sp.c = first_code s l e ∙ sp.coded in
        let f = front_spells (length s) sp.a sp.b sp.c s sp.digits (ap (λ (n : ℕ). all (λ m. eqb m.code n) (front s)) (sym k) ∙ q) in
        let n : length f.rest ≡ 0 = omega (arith, spelled_total sp.a sp.b sp.c (front s), length-append (spelled sp.a sp.b sp.c (front s)) f.rest, ap length f.is) in (
          sp.a,
          sp.b,
          sp.c,
          sp.digits,
          ends_of (front s) p f.bare,
          f.each,
          f.is ∙ ap (λ (t : List ℕ). spelled sp.a sp.b sp.c (front s) ++ t) (nil_from_length f.rest n) ∙ append-nil _,
        )

-- a line as it is spelled is read as itself
text_end : (text rest : List ℕ) → all text_byte text ≡ true → text_len (text ++ 13 ∷ 10 ∷ rest) ≡ length text
text_end [] rest e = refl
text_end (x ∷ text) rest e =
    let (p, q) = and_parts (text_byte x) (all text_byte text) e in let h = text_end text rest q in grind (arith, nat_tests)

text_back : (code : ℕ) (sep : Separator) (text rest : List ℕ) → all text_byte text ≡ true → length text ≤ 506 →
    text_line code sep (text ++ 13 ∷ 10 ∷ rest) ≡ Some (record { code = code; separator = sep; text = text })
text_back code sep text rest e h =
    let s = text ++ 13 ∷ 10 ∷ rest in
    let n = text_end text rest e in
    ap (λ (k : ℕ). cond (crlf_first (drop k s) && leb k 506) (Some (record { code = code; separator = sep; text = take k s })) None) n
    ∙ ap (λ (t : List ℕ). cond (crlf_first t && leb (length text) 506) (Some (record { code = code; separator = sep; text = take (length text) s })) None) (drop_at text (13 ∷ 10 ∷ rest) (length text) refl)
    ∙ ap (λ (t : List ℕ). cond (leb (length text) 506) (Some (record { code = code; separator = sep; text = t })) None) (take_at text (13 ∷ 10 ∷ rest) (length text) refl)
    ∙ ap (λ (b : Bool). cond b (Some (record { code = code; separator = sep; text = text })) None) (le-leb (length text) 506 h)

-- a line's separator and text go together
abbrev Fit : Separator → List ℕ → Type 0
Fit Hyphen text = Unit {0}
Fit Blank text = Unit {0}
Fit Missing text = text ≡ []

wire_flat : (a b c : ℕ) (sep : Separator) (text rest : List ℕ) →
    (mark sep ++ (text ++ 13 ∷ 10 ∷ [])) ++ rest ≡ mark sep ++ (text ++ 13 ∷ 10 ∷ rest)
wire_flat a b c sep text rest = simp append_assoc

digits_back : (a b c : ℕ) (s : List ℕ) (d : ℕ) → code_digits a b c ≡ true → line_at (a ∷ b ∷ c ∷ d ∷ s) ≡ behind_code (code_of a b c) d s
digits_back a b c s d dig = ap (λ (x : Bool). cond x (behind_code (code_of a b c) d s) None) dig

sep_back : (a b c : ℕ) (sep : Separator) (text rest : List ℕ) → code_digits a b c ≡ true → all text_byte text ≡ true → length (mark sep ++ (text ++ 13 ∷ 10 ∷ [])) ≤ 509 → Fit sep text →
    line_at (a ∷ b ∷ c ∷ (mark sep ++ (text ++ 13 ∷ 10 ∷ rest))) ≡ Some (record { code = code_of a b c; separator = sep; text = text })
sep_back a b c Hyphen text rest dig e few fit =
    digits_back a b c (text ++ 13 ∷ 10 ∷ rest) 45 dig ∙ text_back (code_of a b c) Hyphen text rest e (omega (arith, length-append text (13 ∷ 10 ∷ [])))
sep_back a b c Blank text rest dig e few fit =
    digits_back a b c (text ++ 13 ∷ 10 ∷ rest) 32 dig ∙ text_back (code_of a b c) Blank text rest e (omega (arith, length-append text (13 ∷ 10 ∷ [])))
sep_back a b c Missing text rest dig e few fit =
    ap (λ (t : List ℕ). line_at (a ∷ b ∷ c ∷ (t ++ 13 ∷ 10 ∷ rest))) fit ∙ digits_back a b c (10 ∷ rest) 13 dig
    ∙ ap (λ (t : List ℕ). Some (record { code = code_of a b c; separator = Missing; text = t })) (sym fit)

line_back : (a b c : ℕ) (l : Line) (rest : List ℕ) → code_digits a b c ≡ true → l.code ≡ code_of a b c → all text_byte l.text ≡ true →
    length (wire a b c l) ≤ 512 → Fit l.separator l.text → line_at (wire a b c l ++ rest) ≡ Some l
line_back a b c l rest dig q e few fit =
    ap (λ (t : List ℕ). line_at (a ∷ b ∷ c ∷ t)) (wire_flat a b c l.separator l.text rest)
    ∙ sep_back a b c l.separator l.text rest dig e (omega arith) fit
    ∙ ap (λ (n : ℕ). Some (record { code = n; separator = l.separator; text = l.text })) (sym q)

inner_fit : (sep : Separator) (text : List ℕ) → Inner sep → Fit sep text
inner_fit Hyphen text h = tt
inner_fit Blank text h = absurd h
inner_fit Missing text h = absurd h

final_fit : (sep : Separator) (text : List ℕ) → Final sep text → Fit sep text
final_fit Hyphen text h = absurd h
final_fit Blank text h = tt
final_fit Missing text h = h

abbrev Fits : List Line → Type 0
Fits [] = Unit {0}
Fits (l ∷ ls) = Fit l.separator l.text × Fits ls

ends_fit : (ls : List Line) → Ends ls → Fits ls
ends_fit [] h = tt
ends_fit (l ∷ []) h = (final_fit l.separator l.text h, tt)
ends_fit (l ∷ m ∷ ls) h = (inner_fit l.separator l.text h.0, ends_fit (m ∷ ls) h.1)

-- lines as they are spelled are read as themselves
front_back : (n a b c : ℕ) (ls : List Line) → code_digits a b c ≡ true → Fits ls → Each a b c ls → length (spelled a b c ls) ≤ n → front_by n (spelled a b c ls) ≡ ls
front_back n a b c [] dig f e h = front_nil n
front_back zero a b c (l ∷ ls) dig f e h = absurd (omega (arith, length-append (wire a b c l) (spelled a b c ls), wire_size a b c l))
front_back (suc n) a b c (l ∷ ls) dig f (q, t, few, e) h =
    let i = line_back a b c l (spelled a b c ls) dig q t few f.0 in
    let d = drop_at (wire a b c l) (spelled a b c ls) (size l) (wire_size a b c l) in
    ap (λ (o : Option Line). front_in o (wire a b c l ++ spelled a b c ls) (front_by n)) i
    ∙ ap (λ (x : List ℕ). l ∷ front_by n x) d
    ∙ ap (λ (x : List Line). l ∷ x) (front_back n a b c ls dig f.1 e (omega (arith, length-append (wire a b c l) (spelled a b c ls), wire_size a b c l)))

last_of : (sep : Separator) (text : List ℕ) → Final sep text → is_last sep ≡ true
last_of Hyphen text h = absurd h
last_of Blank text h = refl
last_of Missing text h = refl

not_last : (sep : Separator) → Inner sep → not (is_last sep) ≡ true
not_last Hyphen h = refl
not_last Blank h = absurd h
not_last Missing h = absurd h

closes_of : (ls : List Line) → Ends ls → closes ls ≡ true
closes_of [] h = absurd h
closes_of (l ∷ []) h = last_of l.separator l.text h
closes_of (l ∷ m ∷ ls) h = and_from _ _ (not_last l.separator h.0) (closes_of (m ∷ ls) h.1)

codes_of : (a b c : ℕ) (ls : List Line) → Each a b c ls → all (λ l. eqb l.code (code_of a b c)) ls ≡ true
codes_of a b c [] e = refl
codes_of a b c (l ∷ ls) (q, t, few, e) = and_from _ _ (eq-eqb l.code (code_of a b c) q) (codes_of a b c ls e)

code_first : (a b c : ℕ) (ls : List Line) → Ends ls → Each a b c ls → code_in ls ≡ code_of a b c
code_first a b c [] h e = absurd h
code_first a b c (l ∷ ls) h e = e.0

back : (s : List ℕ) (ls : List Line) → Formed s ls → (well_formed s ≡ true) × (front s ≡ ls)
back s ls (a, b, c, dig, ends, each, is) =
    let n = ap length is in
    let f : front s ≡ ls = ap (front_by (length s)) is ∙ front_back (length s) a b c ls dig (ends_fit ls ends) each (omega arith) in
    let t : total ls ≡ length s = sym (spelled_total a b c ls) ∙ sym n in
    let all_one = ap (λ (k : ℕ). all (λ l. eqb l.code k) ls) (code_first a b c ls ends each) ∙ codes_of a b c ls each in
    (ap (λ (x : List Line). in_form (code_in x) x (length s)) f ∙ and_from _ _ (closes_of ls ends) (and_from _ _ all_one (eq-eqb (total ls) (length s) t)), f)

-- a line's text stands at its place
text_stands : (s : List ℕ) (at : ℕ) (l : Line) → line_at (drop at s) ≡ Some l → (r : List ℕ) × (drop (text_place at l) s ≡ l.text ++ r)
text_stands s at l e =
    let sp = line_spells (drop at s) l e in
    let m = mark l.separator in
    let r = 13 ∷ 10 ∷ sp.rest in
    let flat = wire_flat sp.a sp.b sp.c l.separator l.text sp.rest in
    let head = sp.a ∷ sp.b ∷ sp.c ∷ m in
    let i : drop at s ≡ head ++ (l.text ++ r) = sp.is ∙ ap (λ (t : List ℕ). sp.a ∷ sp.b ∷ sp.c ∷ t) flat in
    let n : length head ≡ 3 + width l.separator = omega (arith, mark_width l.separator) in (
      r,
      ap (λ (k : ℕ). drop k s) (add_assoc at 3 (width l.separator)) ∙ sym (drop-drop (3 + width l.separator) at s)
          ∙ ap (drop (3 + width l.separator)) i ∙ drop_at head (l.text ++ r) (3 + width l.separator) n,
    )

abbrev Placed : List ℕ → Part → Type 0
Placed s p = part_bytes p ≡ take (length (part_bytes p)) (drop (part_place p) s)

cond_placed : (s : List ℕ) (b : Bool) (x y : Part) → Placed s x → Placed s y → Placed s (cond b x y)
cond_placed s true x y h k = h
cond_placed s false x y h k = k

part_placed : (s : List ℕ) (at : ℕ) (l : Line) → line_at (drop at s) ≡ Some l → Placed s (part_of at l)
part_placed s at l e =
    let (r, d) = text_stands s at l e in
    let text = l.text in
    let word = first_part 32 text in
    let whole : text ≡ take (length text) (drop (text_place at l) s) = sym (ap (take (length text)) d ∙ take_at text r (length text) refl) in
    let front : word ≡ take (length word) (drop (text_place at l) s) = sym (ap (take (length word)) d ∙ take-append-le (length word) text r (part_within 32 text) ∙ take_first 32 text) in
    cond_placed s (eqb at 0) _ _ whole (cond_placed s (is_keyword word) _ _ front whole)

placed_in : (s : List ℕ) (at : ℕ) (o : Option Line) (p : Part) → line_at (drop at s) ≡ o → part_in at o ≡ Some p → Placed s p
placed_in s at None p e q = absurd (let z : ◌≡◌ {A = ℕ} 0 1 = cc in omega arith)
placed_in s at (Some l) p e q = let f : part_of at l ≡ p = cc in subst (Placed s) f (part_placed s at l e)

pub replies_hold : RepliesHold
replies_hold = record { reply_is_lines = λ s. (forth s, back s); parts_in_place = λ s at p q. placed_in s at (line_at (drop at s)) p refl q }
