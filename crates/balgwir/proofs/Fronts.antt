-- The front of a sheet up to where a record should stand: what is known of it, one record on, and at the first fault.
use Rattle.std.proofs.Common.{◌≡◌, ℕ, suc, ◌+◌, ◌<◌, ◌≤◌, Bool, true, false, cond, ◌&&◌, ltb, leb, List, [], ◌∷◌, ◌++◌, length, take, drop, is_some, Some, None, sym, refl, ap, ◌∙◌, subst, arith}
use Rattle.std.proofs.lemmas.Bool.{and_parts, and_from, and_left, and_right, ltb-false, ltb-true, le-leb, lt-leb}
use Rattle.std.proofs.lemmas.List.{take-append-drop, take-take, drop-take, take_at, length-drop, drop-drop, length_push, nil_from_length}
use Rattle.smtp.specs.Bytes.{all}
use Rattle.line.specs.declared.record.Letter.{Letter}
use Rattle.line.specs.declared.record.Letter.TheVariants.{Opened, Clear, Covered, Reply, Handshake}
use Rattle.line.specs.Model.{Bytes, Record}
use Rattle.line.specs.Layout.{written, record_at, records, whole, size_of, size_in}
use Rattle.line.specs.Sheet.{handshake_of, sheet_bytes, sheet_record, rising, sheet_from, sheet_form}
use Rattle.line.proofs.Laws.{record_exact, records_step, whole_step, records_more, whole_more, records_nil, whole_nil, whole_none}
use Rattle.line.proofs.Reading.{size_within}
use Rattle.balgwir.specs.declared.sheet_fault.Fault.{Fault}
use Rattle.balgwir.specs.declared.sheet_fault.Fault.TheVariants as fault
use Rattle.balgwir.specs.SheetFaults.{letter_fault, record_fault, fault_in, least_from, First}

-- a record that was read stands there as it is written
longer : (s : Bytes) (at : ℕ) (r : Record) → record_at (drop at s) ≡ Some r → take (at + size_of r) s ≡ take at s ++ written r
longer s at r h =
    let x = record_exact (drop at s) r h in
    sym (take-append-drop at (take (at + size_of r) s))
    ∙ ap (λ (t : Bytes). t ++ drop at (take (at + size_of r) s)) (take-take at (at + size_of r) s (omega arith))
    ∙ ap (λ (t : Bytes). take at s ++ t) (drop-take at (size_of r) s ∙ ap (take (size_of r)) x.text ∙ take_at (written r) (drop (size_of r) (drop at s)) (size_of r) (omega arith))

all_push : (test : Record → Bool) (rs : List Record) (r : Record) → all test rs ≡ true → test r ≡ true → all test (rs ++ (r ∷ [])) ≡ true
all_push test [] r h k = and_from (test r) true k refl
all_push test (q ∷ rs) r h k =
    let p = and_parts (test q) (all test rs) h in
    and_from (test q) (all test (rs ++ (r ∷ []))) p.0 (all_push test rs r p.1 k)

rising_push : (least : ℕ) (rs : List Record) (r : Record) → rising least rs ≡ true → leb (least_from least rs) r.visit ≡ true → rising least (rs ++ (r ∷ [])) ≡ true
rising_push least [] r h k = and_from (leb least r.visit) true k refl
rising_push least (q ∷ rs) r h k =
    let p = and_parts (leb least q.visit) (rising q.visit rs) h in
    and_from (leb least q.visit) (rising q.visit (rs ++ (r ∷ []))) p.0 (rising_push q.visit rs r p.1 k)

least_push : (least : ℕ) (rs : List Record) (r : Record) → least_from least (rs ++ (r ∷ [])) ≡ r.visit
least_push least [] r = refl
least_push least (q ∷ rs) r = least_push q.visit rs r

-- a sheet with one more record on it
form_more : (t : Bytes) (r : Record) → whole (t ++ written r) ≡ true → records (t ++ written r) ≡ records t ++ (r ∷ [])
    → sheet_form t ≡ true → leb (least_from 1 (records t)) r.visit ≡ true → sheet_record r ≡ true → sheet_form (t ++ written r) ≡ true
form_more t r w e form up is =
    let rs = records t in
    let p = and_parts (whole t) (all sheet_record rs && rising 1 rs) form in
    let a = and_parts (all sheet_record rs) (rising 1 rs) p.1 in
    and_from (whole (t ++ written r)) (all sheet_record (records (t ++ written r)) && rising 1 (records (t ++ written r))) w
    (subst (λ (q : List Record). (all sheet_record q && rising 1 q) ≡ true) (sym e)
    (and_from (all sheet_record (rs ++ (r ∷ []))) (rising 1 (rs ++ (r ∷ []))) (all_push sheet_record rs r a.0 is) (rising_push 1 rs r a.1 up)))

-- what a letter's fault says of the record
letter_right : (l : Letter) (bytes : Bytes) → letter_fault l bytes ≡ None → sheet_bytes l bytes ≡ true
letter_right Opened bytes e = let z : ◌≡◌ {A = ℕ} 0 1 = cc in absurd (omega arith)
letter_right Clear bytes e = let z : ◌≡◌ {A = ℕ} 0 1 = cc in absurd (omega arith)
letter_right Covered bytes e = let z : ◌≡◌ {A = ℕ} 0 1 = cc in absurd (omega arith)
letter_right Reply bytes e = refl
letter_right Handshake bytes e = go (is_some (handshake_of bytes)) e
  where
    go : (b : Bool) → cond b None (Some fault.Handshake) ≡ None → b ≡ true
    go true q = refl
    go false q = let z : ◌≡◌ {A = ℕ} 0 1 = cc in absurd (omega arith)

letter_wrong : (l : Letter) (bytes : Bytes) (w : Fault) → letter_fault l bytes ≡ Some w → sheet_bytes l bytes ≡ false
letter_wrong Opened bytes w e = refl
letter_wrong Clear bytes w e = refl
letter_wrong Covered bytes w e = refl
letter_wrong Reply bytes w e = let z : ◌≡◌ {A = ℕ} 0 1 = cc in absurd (omega arith)
letter_wrong Handshake bytes w e = go (is_some (handshake_of bytes)) e
  where
    go : (b : Bool) → cond b None (Some fault.Handshake) ≡ Some w → b ≡ false
    go false q = refl
    go true q = let z : ◌≡◌ {A = ℕ} 0 1 = cc in absurd (omega arith)

-- and a record's
pub record_right : (least : ℕ) (r : Record) → record_fault least r ≡ None → (leb least r.visit ≡ true) × (sheet_record r ≡ true)
record_right least r e = go (ltb r.visit least) refl e
  where
    go : (b : Bool) → ltb r.visit least ≡ b → cond b (Some fault.Visit) (letter_fault r.letter r.bytes) ≡ None → (leb least r.visit ≡ true) × (sheet_record r ≡ true)
    go true t q = let z : ◌≡◌ {A = ℕ} 0 1 = cc in absurd (omega arith)
    go false t q = (le-leb least r.visit (ltb-false r.visit least t), letter_right r.letter r.bytes q)

pub record_wrong : (least : ℕ) (r : Record) (w : Fault) → record_fault least r ≡ Some w → (leb least r.visit && sheet_record r) ≡ false
record_wrong least r w e = go (ltb r.visit least) refl e
  where
    go : (b : Bool) → ltb r.visit least ≡ b → cond b (Some fault.Visit) (letter_fault r.letter r.bytes) ≡ Some w → (leb least r.visit && sheet_record r) ≡ false
    go true t q = and_left (leb least r.visit) (sheet_record r) (lt-leb least r.visit (ltb-true r.visit least t))
    go false t q = and_right (leb least r.visit) (sheet_record r) (letter_wrong r.letter r.bytes w q)

-- what is left of a sheet, by what stands at its front: a record, none, or nothing
alike : (x y w a z : Bool) → (w && ((y && a) && (x && z))) ≡ ((x && y) && (w && (a && z)))
alike true true w a z = refl
alike true false true a z = refl
alike true false false a z = refl
alike false y false a z = refl
alike false true true true z = refl
alike false true true false z = refl
alike false false true a z = refl

left_step : (least : ℕ) (s : Bytes) (r : Record) → record_at s ≡ Some r → sheet_from least s ≡ ((leb least r.visit && sheet_record r) && sheet_from r.visit (drop (size_of r) s))
left_step least s r e =
    let k = records_step s r e in
    let w = whole_step s r e in
    rw (w, k) (alike (leb least r.visit) (sheet_record r) (whole (drop (size_of r) s)) (all sheet_record (records (drop (size_of r) s))) (rising r.visit (records (drop (size_of r) s))))

sheet_step : (least : ℕ) (s : Bytes) (at : ℕ) (r : Record) → record_at (drop at s) ≡ Some r
    → sheet_from least (drop at s) ≡ ((leb least r.visit && sheet_record r) && sheet_from r.visit (drop (at + size_of r) s))
sheet_step least s at r e =
    left_step least (drop at s) r e ∙ ap (λ (t : Bytes). (leb least r.visit && sheet_record r) && sheet_from r.visit t) (drop-drop (size_of r) at s)

sheet_none : (least : ℕ) (s : Bytes) (at : ℕ) → record_at (drop at s) ≡ None → at < length s → sheet_from least (drop at s) ≡ false
sheet_none least s at e h = rw (whole_none (drop at s) e (omega (arith, length-drop at s)))

sheet_end : (least : ℕ) (s : Bytes) (at : ℕ) → length s ≤ at → sheet_from least (drop at s) ≡ true
sheet_end least s at h =
    let e : drop at s ≡ [] = nil_from_length (drop at s) (omega (arith, length-drop at s)) in
    ap (sheet_from least) e ∙ rw (whole_nil, records_nil)

-- The front of a sheet up to a place: it is a sheet in its form, of one record fewer than the number says, behind which visit numbers go
-- on from the least; and what is left decides of the whole.
pub record Front (s : Bytes) (number place least : ℕ) : Type 0 where
  pub within : place ≤ length s
  pub few : number ≤ place + 1
  pub form : sheet_form (take place s) ≡ true
  pub counted : number ≡ suc (length (records (take place s)))
  pub goes_on : least ≡ least_from 1 (records (take place s))
  pub left : sheet_from least (drop place s) ≡ sheet_form s

-- nothing
pub front_none : (s : Bytes) → Front s 1 0 1
front_none s = record {
  within = omega arith;
  few = omega arith;
  form = simp (whole_nil, records_nil);
  counted = ap (λ (rs : List Record). suc (length rs)) (sym records_nil);
  goes_on = ap (least_from 1) (sym records_nil);
  left = refl;
}

-- one record on
pub front_more : (s : Bytes) (number place least : ℕ) (r : Record) → Front s number place least → record_at (drop place s) ≡ Some r → None ≡ record_fault least r
    → Front s (number + 1) (place + size_of r) r.visit
front_more s number place least r f h right =
    let t = take place s in
    let p = record_right least r (sym right) in
    let x = record_exact (drop place s) r h in
    let w = and_parts (whole t) (all sheet_record (records t) && rising 1 (records t)) f.form in
    let e = records_more t r w.0 x.fits in
    let l = longer s place r h in
    let up : leb (least_from 1 (records t)) r.visit ≡ true = subst (λ (n : ℕ). leb n r.visit ≡ true) f.goes_on p.0 in
    let yes : (leb least r.visit && sheet_record r) ≡ true = and_from (leb least r.visit) (sheet_record r) p.0 p.1 in
    let count : length (records (take (place + size_of r) s)) ≡ length (records t) + 1 =
    ap (λ (q : Bytes). length (records q)) l ∙ ap length e ∙ length_push (records t) r in
    record {
      within = omega (arith, size_within (drop place s), ap size_in h, length-drop place s, f.within);
      few = omega (arith, f.few);
      form = ap sheet_form l ∙ form_more t r (whole_more t r w.0 x.fits) e f.form up p.1;
      counted = omega (arith, f.counted, count);
      goes_on = sym (ap (λ (q : Bytes). least_from 1 (records q)) l ∙ ap (least_from 1) e ∙ least_push 1 (records t) r);
      left = sym (simp yes at (sheet_step least s place r h)) ∙ f.left;
    }

-- the whole sheet
pub front_all : (s : Bytes) (number place least : ℕ) → Front s number place least → length s ≤ place → sheet_form s ≡ true
front_all s number place least f h = sym f.left ∙ sheet_end least s place h

-- a place where no record stands
pub first_layout : (s : Bytes) (number place least : ℕ) → Front s number place least → place < length s → record_at (drop place s) ≡ None
    → First s (record { number = number; place = place; why = fault.Layout })
first_layout s number place least f h none = record {
  within = h;
  before = f.form;
  counted = f.counted;
  there = ap (fault_in (least_from 1 (records (take place s)))) none;
  breaks = sym f.left ∙ sheet_none least s place none h;
}

-- a record that breaks the form
pub first_record : (s : Bytes) (number place least : ℕ) (r : Record) (w : Fault) → Front s number place least → record_at (drop place s) ≡ Some r
    → Some w ≡ record_fault least r → First s (record { number = number; place = place; why = w })
first_record s number place least r w f is wrong = record {
  within = omega (arith, size_within (drop place s), ap size_in is, length-drop place s, f.within);
  before = f.form;
  counted = f.counted;
  there = ap (fault_in (least_from 1 (records (take place s)))) is ∙ subst (λ (n : ℕ). record_fault n r ≡ Some w) f.goes_on (sym wrong);
  breaks = sym f.left ∙ simp (record_wrong least r w (sym wrong)) at (sheet_step least s place r is);
}
