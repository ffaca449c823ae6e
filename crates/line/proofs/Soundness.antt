-- What holds of a line that keeps its transcript in lent bytes, before and after each call.
use Rattle.std.proofs.Common.{◌≡◌, ℕ, suc, ◌+◌, ◌-◌, ◌*◌, ◌≤◌, min, Bool, true, false, cond, not, eqb, leb, List, [], ◌∷◌, ◌++◌, map, length, take, drop, is_some, Some, None, Ok, Option, sym, refl, ap, ◌∙◌, subst, arith}
use Rattle.std.proofs.lemmas.Bool.Decides.{nat_tests}
use Rattle.std.specs.Option.{option_map}
use Rattle.std.proofs.lemmas.Bool.{true≢false, not-true, not-false, and_parts, and_from, eqb-true, eq-eqb, leb-true, le-leb}
use Rattle.std.proofs.lemmas.List.{take-append-le, drop-append-le, length-drop, length-take-le, length-append, map-append, drop_all, drop-drop, drop_at, take_at}
use Rattle.line.specs.declared.record.Letter.{Letter}
use Rattle.line.specs.declared.record.Letter.TheVariants as letter
use Rattle.line.specs.declared.line.Standing.{Standing}
use Rattle.line.specs.declared.line.Standing.TheVariants.{Closed, Clear, Covered}
use Rattle.line.specs.declared.state.State.{State}
use Rattle.smtp.specs.Names.{host_name, dotted, label_byte}
use Rattle.smtp.specs.declared.refusal.Refusal.TheVariants.{WrongStanding, NoRoom}
use Rattle.line.specs.Model.{Bytes, Record, Piece, Rule, closed, opened, Meaning, fresh, stance, idle_at}
use Rattle.line.specs.declared.record.Trust.{Trust}
use Rattle.line.specs.declared.visit.Visit.{Visit}
use Rattle.line.specs.Buffers.{laid_at}
use Rattle.line.specs.Calls.{Step, does, refuse, tight, noted, letter_of, piece, crlf, opening, putting, taking, hearing, laid, short, fitting, reply_buffer, covering, names_of, names_buffer}
use Rattle.line.specs.Pieces.{piece_of, pieces_of}
use Rattle.line.specs.Peers.{reply_to, handshake_to, sized, kept}
use Rattle.line.specs.Layout.{head_of, written, records, whole, Fits}
use Rattle.line.specs.Sheet.{clear_count, covered_count}
use Rattle.line.specs.Transcripts.{is_closed, is_clear, is_covered, piece_letter, name_in, pieces_in, standing_of, sense, calm, sound, fresh_state, opened_state, put_state, quiet_state, standing_if, if_fits, waiting_in, shaken_in}
use Rattle.line.proofs.Laws.{records_more, whole_more, whole_nil, records_nil}
use Rattle.line.proofs.Laid.{piece_laid, name_laid, fitting_laid, names_laid}

-- the facts, one by one
pub record Facts (text : Bytes) (st : State) : Type 0 where
  pub begun : st.start ≤ st.used
  pub named : st.at + st.long ≤ st.start
  pub visits : 14 * st.visit ≤ st.used
  pub amount : 12 * (st.clear + st.covered) ≤ st.used
  pub whole_text : whole text ≡ true
  pub whole_visit : whole (drop st.start text) ≡ true
  pub clears : st.clear ≡ clear_count (pieces_in text st)
  pub covereds : st.covered ≡ covered_count (pieces_in text st)
  pub calmed : calm st.standing st.due ≡ true

pub facts : (text : Bytes) (st : State) → sound text st ≡ true → Facts text st
unfolding sound
facts text st h =
    let a = and_parts (leb st.start st.used) _ h in
    let b = and_parts (leb (st.at + st.long) st.start) _ a.1 in
    let c = and_parts (leb (14 * st.visit) st.used) _ b.1 in
    let d = and_parts (leb (12 * (st.clear + st.covered)) st.used) _ c.1 in
    let e = and_parts (whole text) _ d.1 in
    let f = and_parts (whole (drop st.start text)) _ e.1 in
    let g = and_parts (eqb st.clear (clear_count (pieces_in text st))) _ f.1 in
    let i = and_parts (eqb st.covered (covered_count (pieces_in text st))) _ g.1 in
    record {
      begun = leb-true st.start st.used a.0;
      named = leb-true (st.at + st.long) st.start b.0;
      visits = leb-true (14 * st.visit) st.used c.0;
      amount = leb-true (12 * (st.clear + st.covered)) st.used d.0;
      whole_text = e.0;
      whole_visit = f.0;
      clears = eqb-true st.clear (clear_count (pieces_in text st)) g.0;
      covereds = eqb-true st.covered (covered_count (pieces_in text st)) i.0;
      calmed = i.1;
    }

pub sound_from : (text : Bytes) (st : State) → Facts text st → sound text st ≡ true
unfolding sound
sound_from text st f =
    and_from _ _ (le-leb st.start st.used f.begun)
    (and_from _ _ (le-leb (st.at + st.long) st.start f.named)
    (and_from _ _ (le-leb (14 * st.visit) st.used f.visits)
    (and_from _ _ (le-leb (12 * (st.clear + st.covered)) st.used f.amount)
    (and_from _ _ f.whole_text
    (and_from _ _ f.whole_visit
    (and_from _ _ (eq-eqb st.clear (clear_count (pieces_in text st)) f.clears)
    (and_from _ _ (eq-eqb st.covered (covered_count (pieces_in text st)) f.covereds) f.calmed)))))))

-- nothing is written
pub sound_fresh : sound [] fresh_state ≡ true
sound_fresh = sound_from [] fresh_state (record {
  begun = omega arith;
  named = omega arith;
  visits = omega arith;
  amount = omega arith;
  whole_text = whole_nil;
  whole_visit = whole_nil;
  clears = ap (λ (t : List Record). clear_count (map piece_of t)) (sym records_nil);
  covereds = ap (λ (t : List Record). covered_count (map piece_of t)) (sym records_nil);
  calmed = refl;
})

pub sense_fresh : (rule : Rule) (total : ℕ) → sense rule [] total fresh_state ≡ fresh (min 1000000 total) rule
sense_fresh rule total =
    let z : min 1000000 total - 0 ≡ min 1000000 total = omega arith in
    let n = records_nil in
    cc

-- with no reply due, however the line stands
pub sound_quiet : (text : Bytes) (st : State) (s : Standing) → sound text st ≡ true → sound text (quiet_state st s) ≡ true
sound_quiet text st s h =
    let f = facts text st h in
    sound_from text (quiet_state st s) (record {
      begun = f.begun;
      named = f.named;
      visits = f.visits;
      amount = f.amount;
      whole_text = f.whole_text;
      whole_visit = f.whole_visit;
      clears = f.clears;
      covereds = f.covereds;
      calmed = any s;
    })
  where
    any : (s : Standing) → calm s false ≡ true
    any Closed = refl
    any Clear = refl
    any Covered = refl

-- one piece more
clear_more : (ps : List Piece) (c : Bool) (bytes : Bytes) → clear_count (ps ++ (piece c bytes ∷ [])) ≡ cond c (clear_count ps) (clear_count ps + 1)
clear_more [] true bytes = refl
clear_more [] false bytes = refl
clear_more (p ∷ ps) c bytes = go p.covered c (clear_more ps c bytes)
  where
    go : (t c : Bool) → clear_count (ps ++ (piece c bytes ∷ [])) ≡ cond c (clear_count ps) (clear_count ps + 1)
        → cond t (clear_count (ps ++ (piece c bytes ∷ []))) (suc (clear_count (ps ++ (piece c bytes ∷ []))))
        ≡ cond c (cond t (clear_count ps) (suc (clear_count ps))) (cond t (clear_count ps) (suc (clear_count ps)) + 1)
    go true c h = h
    go false true h = ap (λ (n : ℕ). suc n) h
    go false false h = ap (λ (n : ℕ). suc n) h ∙ omega arith

covered_more : (ps : List Piece) (c : Bool) (bytes : Bytes) → covered_count (ps ++ (piece c bytes ∷ [])) ≡ cond c (covered_count ps + 1) (covered_count ps)
covered_more [] true bytes = refl
covered_more [] false bytes = refl
covered_more (p ∷ ps) c bytes = go p.covered c (covered_more ps c bytes)
  where
    go : (t c : Bool) → covered_count (ps ++ (piece c bytes ∷ [])) ≡ cond c (covered_count ps + 1) (covered_count ps)
        → cond t (suc (covered_count (ps ++ (piece c bytes ∷ [])))) (covered_count (ps ++ (piece c bytes ∷ [])))
        ≡ cond c (cond t (suc (covered_count ps)) (covered_count ps) + 1) (cond t (suc (covered_count ps)) (covered_count ps))
    go false c h = h
    go true true h = ap (λ (n : ℕ). suc n) h ∙ omega arith
    go true false h = ap (λ (n : ℕ). suc n) h

-- how many there are
pub count_all : (ps : List Piece) → length ps ≡ clear_count ps + covered_count ps
count_all [] = refl
count_all (p ∷ ps) = go p.covered (count_all ps)
  where
    go : (t : Bool) → length ps ≡ clear_count ps + covered_count ps
        → suc (length ps) ≡ cond t (clear_count ps) (suc (clear_count ps)) + cond t (suc (covered_count ps)) (covered_count ps)
    go true h = omega arith
    go false h = omega arith

-- the record of a piece, and the piece that it stands for
abbrev pub piece_record : State → Bytes → Record
piece_record st bytes = record { visit = st.visit; letter = piece_letter st.standing; bytes = bytes }

piece_back : (s : Standing) (v : ℕ) (bytes : Bytes) → piece_of (record { visit = v; letter = piece_letter s; bytes = bytes }) ≡ piece (is_covered s) bytes
piece_back Closed v bytes = refl
piece_back Clear v bytes = refl
piece_back Covered v bytes = refl

letter_is : (s : Standing) → letter_of (is_covered s) ≡ piece_letter s
letter_is Closed = refl
letter_is Clear = refl
letter_is Covered = refl

pub opened_as : (s : Standing) (name : Bytes) (ps : List Piece) → is_closed s ≡ false → standing_of s name ps ≡ opened (is_covered s) name ps
opened_as Closed name ps e = let z : ◌≡◌ {A = ℕ} 0 1 = cc in absurd (omega arith)
opened_as Clear name ps e = refl
opened_as Covered name ps e = refl

calm_open : (s : Standing) (due : Bool) → is_closed s ≡ false → calm s due ≡ true
calm_open Closed due e = let z : ◌≡◌ {A = ℕ} 0 1 = cc in absurd (omega arith)
calm_open Clear due e = refl
calm_open Covered due e = refl

visit_more : (text : Bytes) (st : State) (bytes : Bytes) → st.start ≤ length text → drop st.start (text ++ written (piece_record st bytes)) ≡ drop st.start text ++ written (piece_record st bytes)
visit_more text st bytes h = drop-append-le st.start text (written (piece_record st bytes)) h

pub pieces_more : (text : Bytes) (st : State) (bytes : Bytes) → Facts text st → st.used ≡ length text → Fits (piece_record st bytes)
    → pieces_in (text ++ written (piece_record st bytes)) (put_state st (length bytes)) ≡ pieces_in text st ++ (piece (is_covered st.standing) bytes ∷ [])
pieces_more text st bytes f u fits =
    let r = piece_record st bytes in
    let h : st.start ≤ length text = omega (arith, f.begun) in
    ap (λ (t : Bytes). map piece_of (records t)) (visit_more text st bytes h)
    ∙ ap (map piece_of) (records_more (drop st.start text) r f.whole_visit fits)
    ∙ map-append piece_of (records (drop st.start text)) (r ∷ [])
    ∙ ap (λ (p : Piece). map piece_of (records (drop st.start text)) ++ (p ∷ [])) (piece_back st.standing st.visit bytes)

put_counts : (c : Bool) (a b used n : ℕ) → 12 * (a + b) ≤ used → 12 * (cond c a (a + 1) + cond c (b + 1) b) ≤ used + (12 + n)
put_counts true a b used n h = omega arith
put_counts false a b used n h = omega arith

-- a piece that is put
pub sound_put : (text : Bytes) (st : State) (bytes : Bytes) → sound text st ≡ true → st.used ≡ length text → Fits (piece_record st bytes) → is_closed st.standing ≡ false
    → sound (text ++ written (piece_record st bytes)) (put_state st (length bytes)) ≡ true
sound_put text st bytes s u fits o =
    let f = facts text st s in
    let r = piece_record st bytes in
    let h : st.start ≤ length text = omega (arith, f.begun) in
    let more = pieces_more text st bytes f u fits in
    let ps = pieces_in text st in
    let c = is_covered st.standing in
    sound_from (text ++ written r) (put_state st (length bytes)) (record {
      begun = omega (arith, f.begun);
      named = f.named;
      visits = omega (arith, f.visits);
      amount = put_counts c st.clear st.covered st.used (length bytes) f.amount;
      whole_text = whole_more text r f.whole_text fits;
      whole_visit = ap whole (visit_more text st bytes h) ∙ whole_more (drop st.start text) r f.whole_visit fits;
      clears = ap (λ (n : ℕ). cond c n (n + 1)) f.clears ∙ sym (ap clear_count more ∙ clear_more ps c bytes);
      covereds = ap (λ (n : ℕ). cond c (n + 1) n) f.covereds ∙ sym (ap covered_count more ∙ covered_more ps c bytes);
      calmed = calm_open st.standing true o;
    })

-- a name within the text stays where it is
pub name_stays : (text more : Bytes) (at long : ℕ) → at + long ≤ length text → take long (drop at (text ++ more)) ≡ take long (drop at text)
name_stays text more at long h =
    let i : at ≤ length text = omega arith in
    let j : long ≤ length (drop at text) = simp length-drop (omega arith) in
    rw (drop-append-le at text more, take-append-le long (drop at text) more)

puts_does : (m : Meaning) (c : Bool) (name bytes : Bytes) (ps : List Piece) → m.standing ≡ opened c name ps → tight m.room (length bytes) ≡ false
    → putting m bytes ≡ does (noted m (opened c name (ps ++ (piece c bytes ∷ []))) m.visit (letter_of c) bytes) tt
puts_does m c name bytes ps s t = rw (s, t)

pub sense_put : (rule : Rule) (text : Bytes) (total : ℕ) (st : State) (bytes : Bytes) → sound text st ≡ true → st.used ≡ length text → Fits (piece_record st bytes)
    → is_closed st.standing ≡ false → tight (min 1000000 total - st.used) (length bytes) ≡ false
    → putting (sense rule text total st) bytes ≡ does (sense rule (text ++ written (piece_record st bytes)) total (put_state st (length bytes))) tt
sense_put rule text total st bytes s u fits o t =
    let f = facts text st s in
    let r = piece_record st bytes in
    let c = is_covered st.standing in
    let ps = pieces_in text st in
    let nm = name_in text st in
    let m = sense rule text total st in
    let after = text ++ written r in
    let e1 = puts_does m c nm bytes ps (opened_as st.standing nm ps o) t in
    let stands : opened c nm (ps ++ (piece c bytes ∷ [])) ≡ standing_of st.standing (name_in after (put_state st (length bytes))) (pieces_in after (put_state st (length bytes))) =
    sym (opened_as st.standing _ _ o ∙ ap (λ (n : Bytes). opened c n (pieces_in after (put_state st (length bytes)))) (name_stays text (written r) st.at st.long (omega (arith, f.begun, f.named)))
    ∙ ap (opened c nm) (pieces_more text st bytes f u fits)) in
    let wrote : records text ++ (record { visit = st.visit; letter = letter_of c; bytes = bytes } ∷ []) ≡ records after =
    ap (λ (l : Letter). records text ++ (record { visit = st.visit; letter = l; bytes = bytes } ∷ [])) (letter_is st.standing) ∙ sym (records_more text r f.whole_text fits) in
    let room : min 1000000 total - st.used - (length bytes + 12) ≡ min 1000000 total - (st.used + (12 + length bytes)) = omega arith in
    e1 ∙ ap (λ (m : Meaning). does m tt) (cc)

-- a name that is opened
abbrev pub open_record : State → Bytes → Record
open_record st name = record { visit = st.visit + 1; letter = letter.Opened; bytes = name ++ crlf }

pub past_all : (text : Bytes) (st : State) (name : Bytes) → st.used ≡ length text → drop (st.used + (12 + (length name + 2))) (text ++ written (open_record st name)) ≡ []
past_all text st name u =
    drop_all (st.used + (12 + (length name + 2))) (text ++ written (open_record st name)) (omega (arith, length-append text (written (open_record st name)), length-append name crlf))

pub name_there : (text : Bytes) (st : State) (name : Bytes) → st.used ≡ length text → take (length name) (drop (st.used + 12) (text ++ written (open_record st name))) ≡ name
name_there text st name u =
    let more = written (open_record st name) in
    let dd : drop 12 (drop st.used (text ++ more)) ≡ drop (st.used + 12) (text ++ more) = drop-drop 12 st.used (text ++ more) in
    let da : drop st.used (text ++ more) ≡ more = drop_at text more st.used (sym u) in
    let e : drop (st.used + 12) (text ++ more) ≡ name ++ crlf = sym dd ∙ ap (λ (z : Bytes). drop 12 z) da in
    ap (λ (z : Bytes). take (length name) z) e ∙ take_at name crlf (length name) refl

-- a host name has at most 253 bytes
host_short : (name : Bytes) → host_name name ≡ true → length name ≤ 253
host_short name e = leb-true (length name) 253 (and_parts (leb (length name) 253) (dotted label_byte 63 name) e).0

pub sound_open : (text : Bytes) (st : State) (name : Bytes) → sound text st ≡ true → st.used ≡ length text → Fits (open_record st name)
    → sound (text ++ written (open_record st name)) (opened_state st (length name)) ≡ true
sound_open text st name s u fits =
    let f = facts text st s in
    let r = open_record st name in
    let none = past_all text st name u in
    sound_from (text ++ written r) (opened_state st (length name)) (record {
      begun = omega arith;
      named = omega arith;
      visits = omega (arith, f.visits);
      amount = omega arith;
      whole_text = whole_more text r f.whole_text fits;
      whole_visit = ap whole none ∙ whole_nil;
      clears = sym (ap (λ (t : Bytes). clear_count (map piece_of (records t))) none ∙ ap (λ (t : List Record). clear_count (map piece_of t)) records_nil);
      covereds = sym (ap (λ (t : Bytes). covered_count (map piece_of (records t))) none ∙ ap (λ (t : List Record). covered_count (map piece_of t)) records_nil);
      calmed = refl;
    })

closed_as : (s : Standing) (name : Bytes) (ps : List Piece) → is_closed s ≡ true → standing_of s name ps ≡ closed
closed_as Closed name ps e = refl
closed_as Clear name ps e = let z : ◌≡◌ {A = ℕ} 0 1 = cc in absurd (omega arith)
closed_as Covered name ps e = let z : ◌≡◌ {A = ℕ} 0 1 = cc in absurd (omega arith)

opens_does : (m : Meaning) (name : Bytes) → host_name name ≡ true → m.standing ≡ closed → tight m.room (length (name ++ crlf)) ≡ false
    → opening m name ≡ does (noted m (opened false name []) (m.visit + 1) letter.Opened (name ++ crlf)) tt
opens_does m name h s t = rw (h, s, t)

pub sense_open : (rule : Rule) (text : Bytes) (total : ℕ) (st : State) (name : Bytes) → sound text st ≡ true → st.used ≡ length text → Fits (open_record st name)
    → host_name name ≡ true → is_closed st.standing ≡ true → tight (min 1000000 total - st.used) (length name + 2) ≡ false
    → opening (sense rule text total st) name ≡ does (sense rule (text ++ written (open_record st name)) total (opened_state st (length name))) tt
sense_open rule text total st name s u fits h o t =
    let f = facts text st s in
    let r = open_record st name in
    let m = sense rule text total st in
    let after = text ++ written r in
    let ln : length (name ++ crlf) ≡ length name + 2 = length-append name crlf in
    let e1 = opens_does m name h (closed_as st.standing (name_in text st) (pieces_in text st) o) (ap (tight (min 1000000 total - st.used)) ln ∙ t) in
    let nm = name_there text st name u in
    let ps : pieces_in after (opened_state st (length name)) ≡ [] = ap (λ (t : Bytes). map piece_of (records t)) (past_all text st name u) ∙ ap (map piece_of) records_nil in
    let wrote : records text ++ (r ∷ []) ≡ records after = sym (records_more text r f.whole_text fits) in
    let room : min 1000000 total - st.used - (length (name ++ crlf) + 12) ≡ min 1000000 total - (st.used + (12 + (length name + 2))) = omega arith in
    e1 ∙ ap (λ (m : Meaning). does m tt) (cc)

-- a piece that fits is short, and has its room
pub roomy : (room n : ℕ) → true ≡ not (tight room n) → (tight room n ≡ false) × (n ≤ 43693) × (n + 12 ≤ room)
roomy room n e = let t = not-true (tight room n) (sym e) in (t, grind (arith, nat_tests), grind (arith, nat_tests))

-- the state that is given is the state after, and there is room
pub record Room (total : ℕ) (st : State) (n : ℕ) (after next : State) : Type 0 where
  pub loose : tight (min 1000000 total - st.used) n ≡ false
  pub small : n ≤ 43693
  pub ends : st.used + (12 + n) ≤ min 1000000 total
  pub is : next ≡ after

pub room_for : (total : ℕ) (st : State) (n : ℕ) (after next : State) → st.used ≤ 1000000 → st.used ≤ total → if_fits total st n after ≡ Some next → Room total st n after next
room_for total st n after next few w e = go (tight (min 1000000 total - st.used) n) refl e
  where
    go : (t : Bool) → tight (min 1000000 total - st.used) n ≡ t → cond t None (Some after) ≡ Some next → Room total st n after next
    go true t e = let z : ◌≡◌ {A = ℕ} 0 1 = cc in absurd (omega arith)
    go false t e =
        let r = roomy (min 1000000 total - st.used) n (sym (ap not t)) in
        record { loose = t; small = r.1; ends = omega (arith, r.2); is = cc }

-- a call that wrote a record: what holds of the bytes and the state then, and what the line means
pub record Done (step : Step (Unit {0})) (rule : Rule) (out : Bytes) (st : State) : Type 0 where
  pub within : st.used ≤ length out
  pub few : st.used ≤ 1000000
  pub keeps : sound (take st.used out) st ≡ true
  pub is : step ≡ does (sense rule (take st.used out) (length out) st) tt

pub put_done : (rule rule' : Rule) (out out' : Bytes) (st st' : State) (l : Letter) (bytes : Bytes) → st.used ≤ length out → st.used ≤ 1000000 → sound (take st.used out) st ≡ true
    → is_closed st.standing ≡ false → true ≡ not (tight (min 1000000 (length out) - st.used) (length bytes)) → l ≡ piece_letter st.standing
    → take (st.used + (12 + length bytes)) out' ≡ take st.used out ++ (head_of st.visit l (length bytes) ++ bytes) → length out' ≡ length out → st' ≡ put_state st (length bytes) → rule' ≡ rule
    → Done (putting (sense rule (take st.used out) (length out) st) bytes) rule' out' st'
put_done rule rule' out out' st st' l bytes w few s o fit le t n e er =
    let f = facts (take st.used out) st s in
    let u : st.used ≡ length (take st.used out) = sym (length-take-le st.used out w) in
    let r = roomy (min 1000000 (length out) - st.used) (length bytes) fit in
    let fits : Fits (piece_record st bytes) = (omega (arith, f.visits), omega (arith, r.1)) in
    let text : take (st.used + (12 + length bytes)) out' ≡ take st.used out ++ written (piece_record st bytes) =
    t ∙ ap (λ (z : Letter). take st.used out ++ (head_of st.visit z (length bytes) ++ bytes)) le in
    let k = sound_put (take st.used out) st bytes s u fits o in
    let q = sense_put rule (take st.used out) (length out) st bytes s u fits o r.0 in
    let st-is : put_state st (length bytes) ≡ st' = sym e in
    subst (λ (z : State). Done (putting (sense rule (take st.used out) (length out) st) bytes) rule' out' z) st-is (record {
      within = omega (arith, r.2);
      few = omega (arith, r.2);
      keeps = ap (λ (z : Bytes). sound z (put_state st (length bytes))) text ∙ k;
      is = q ∙ ap (λ (m : Meaning). does m tt) (rw (er, n, text) refl);
    })

pub open_done : (rule rule' : Rule) (out out' : Bytes) (st st' : State) (host : Bytes) → st.used ≤ length out → st.used ≤ 1000000 → sound (take st.used out) st ≡ true
    → host_name host ≡ true → is_closed st.standing ≡ true → true ≡ not (tight (min 1000000 (length out) - st.used) (length host + 2))
    → take (st.used + (12 + (length host + 2))) out' ≡ take st.used out ++ (head_of (st.visit + 1) letter.Opened (length host + 2) ++ (host ++ crlf)) → length out' ≡ length out
    → st' ≡ opened_state st (length host) → rule' ≡ rule
    → Done (opening (sense rule (take st.used out) (length out) st) host) rule' out' st'
open_done rule rule' out out' st st' host w few s h o fit t n e er =
    let f = facts (take st.used out) st s in
    let u : st.used ≡ length (take st.used out) = sym (length-take-le st.used out w) in
    let r = roomy (min 1000000 (length out) - st.used) (length host + 2) fit in
    let ln : length host + 2 ≡ length (host ++ crlf) = sym (length-append host crlf) in
    let fits : Fits (open_record st host) = (omega (arith, f.visits), omega (arith, r.1)) in
    let text : take (st.used + (12 + (length host + 2))) out' ≡ take st.used out ++ written (open_record st host) =
    t ∙ ap (λ (z : ℕ). take st.used out ++ (head_of (st.visit + 1) letter.Opened z ++ (host ++ crlf))) ln in
    let k = sound_open (take st.used out) st host s u fits in
    let q = sense_open rule (take st.used out) (length out) st host s u fits h o r.0 in
    subst (λ (z : State). Done (opening (sense rule (take st.used out) (length out) st) host) rule' out' z) (sym e) (record {
      within = omega (arith, r.2);
      few = omega (arith, r.2);
      keeps = ap (λ (z : Bytes). sound z (opened_state st (length host))) text ∙ k;
      is = q ∙ ap (λ (m : Meaning). does m tt) (rw (er, n, text) refl);
    })

-- a name for which there is no room
pub open_tight : (rule : Rule) (text : Bytes) (total : ℕ) (st : State) (host : Bytes) → host_name host ≡ true → is_closed st.standing ≡ true
    → false ≡ not (tight (min 1000000 total - st.used) (length host + 2)) → opening (sense rule text total st) host ≡ refuse (sense rule text total st) NoRoom
open_tight rule text total st host h o t =
    let s = closed_as st.standing (name_in text st) (pieces_in text st) o in
    let b : tight (min 1000000 total - st.used) (length (host ++ crlf)) ≡ true = ap (tight (min 1000000 total - st.used)) (length-append host crlf) ∙ not-false (tight (min 1000000 total - st.used) (length host + 2)) (sym t) in
    rw (h, s, b)

-- a piece's record, as it is laid behind what is written
pub put_laid : (rule rule' : Rule) (out out' : Bytes) (st st' : State) (l : Letter) (bytes : Bytes) → st.used ≤ length out → st.used ≤ 1000000 → sound (take st.used out) st ≡ true
    → is_closed st.standing ≡ false → if_fits (length out) st (length bytes) (put_state st (length bytes)) ≡ Some st' → l ≡ piece_letter st.standing
    → out' ≡ laid_at st.used (head_of st.visit l (length bytes + 0) ++ (bytes ++ [])) out → rule' ≡ rule
    → Done (putting (sense rule (take st.used out) (length out) st) bytes) rule' out' st'
put_laid rule rule' out out' st st' l bytes w few s o fit le t er =
    let r = room_for (length out) st (length bytes) (put_state st (length bytes)) st' few w fit in
    let d = piece_laid st.used st.visit l bytes out out' t (omega (arith, r.ends)) in
    put_done rule rule' out out' st st' l bytes w few s o (sym (ap not r.loose)) le d.text d.len r.is er

-- a name's record, as it is laid behind what is written
pub open_laid : (rule rule' : Rule) (out out' : Bytes) (st st' : State) (host : Bytes) → st.used ≤ length out → st.used ≤ 1000000 → sound (take st.used out) st ≡ true
    → host_name host ≡ true → is_closed st.standing ≡ true → if_fits (length out) st (length host + 2) (opened_state st (length host)) ≡ Some st'
    → out' ≡ laid_at st.used (head_of st'.visit letter.Opened (length host + 2) ++ (host ++ crlf)) out → rule' ≡ rule
    → Done (opening (sense rule (take st.used out) (length out) st) host) rule' out' st'
open_laid rule rule' out out' st st' host w few s h o fit t er =
    let r = room_for (length out) st (length host + 2) (opened_state st (length host)) st' few w fit in
    let d = name_laid st.used st'.visit host out out' t (omega (arith, r.ends)) in
    let v : st'.visit ≡ st.visit + 1 = ap (λ (z : State). z.visit) r.is in
    open_done rule rule' out out' st st' host w few s h o (sym (ap not r.loose))
    (d.text ∙ ap (λ (z : ℕ). take st.used out ++ (head_of z letter.Opened (length host + 2) ++ (host ++ crlf))) v) d.len r.is er

-- the name of a visit stays short
pub short_quiet : (st st' : State) (s : Standing) → st' ≡ quiet_state st s → st.long ≤ 253 → st'.long ≤ 253
short_quiet st st' s e h = let l : st'.long ≡ st.long = ap (λ (z : State). z.long) e in omega arith

pub short_put : (total : ℕ) (st st' : State) (bytes : Bytes) → st.used ≤ total → st.used ≤ 1000000 → if_fits total st (length bytes) (put_state st (length bytes)) ≡ Some st'
    → st.long ≤ 253 → st'.long ≤ 253
short_put total st st' bytes w few fit h =
    let r = room_for total st (length bytes) (put_state st (length bytes)) st' few w fit in
    let l : st'.long ≡ st.long = ap (λ (z : State). z.long) r.is in
    omega arith

pub short_open : (total : ℕ) (st st' : State) (host : Bytes) → st.used ≤ total → st.used ≤ 1000000 → if_fits total st (length host + 2) (opened_state st (length host)) ≡ Some st'
    → host_name host ≡ true → st'.long ≤ 253
short_open total st st' host w few fit h =
    let r = room_for total st (length host + 2) (opened_state st (length host)) st' few w fit in
    let l : st'.long ≡ length host = ap (λ (z : State). z.long) r.is in
    omega (arith, host_short host h)

-- What a peer noted of a visit goes by the visit's name and pieces, which stay where nothing is opened or put.
pub noted_quiet : (f : Bytes → List Piece → ℕ) (out : Bytes) (st st' : State) (s : Standing) (note : Option ℕ) → st' ≡ quiet_state st s
    → kept (f (name_in (take st.used out) st) (pieces_in (take st.used out) st)) note ≡ true
    → kept (f (name_in (take st'.used out) st') (pieces_in (take st'.used out) st')) note ≡ true
noted_quiet f out st st' s note e h = ap (λ (z : State). kept (f (name_in (take z.used out) z) (pieces_in (take z.used out) z)) note) e ∙ h

-- where a piece was put, the pieces are one more
pub noted_put : (f f' : Bytes → List Piece → ℕ) (out out' : Bytes) (st st' : State) (l : Letter) (bytes : Bytes) (note : Option ℕ)
    → st.used ≤ length out → st.used ≤ 1000000 → sound (take st.used out) st ≡ true
    → if_fits (length out) st (length bytes) (put_state st (length bytes)) ≡ Some st' → l ≡ piece_letter st.standing
    → out' ≡ laid_at st.used (head_of st.visit l (length bytes + 0) ++ (bytes ++ [])) out → f' ≡ f
    → kept (f (name_in (take st.used out) st) (pieces_in (take st.used out) st ++ (piece (is_covered st.standing) bytes ∷ []))) note ≡ true
    → kept (f' (name_in (take st'.used out') st') (pieces_in (take st'.used out') st')) note ≡ true
noted_put f f' out out' st st' l bytes note w few s fit le t ef h =
    let text = take st.used out in
    let g = facts text st s in
    let u : st.used ≡ length text = sym (length-take-le st.used out w) in
    let r = room_for (length out) st (length bytes) (put_state st (length bytes)) st' few w fit in
    let fits : Fits (piece_record st bytes) = (omega (arith, g.visits), omega (arith, r.small)) in
    let d = piece_laid st.used st.visit l bytes out out' t (omega (arith, r.ends)) in
    let after : take (st.used + (12 + length bytes)) out' ≡ text ++ written (piece_record st bytes) =
    d.text ∙ ap (λ (z : Letter). text ++ (head_of st.visit z (length bytes) ++ bytes)) le in
    let n : name_in (take (st.used + (12 + length bytes)) out') (put_state st (length bytes)) ≡ name_in text st =
    ap (λ (z : Bytes). name_in z st) after ∙ name_stays text (written (piece_record st bytes)) st.at st.long (omega (arith, g.begun, g.named)) in
    let p : pieces_in (take (st.used + (12 + length bytes)) out') (put_state st (length bytes)) ≡ pieces_in text st ++ (piece (is_covered st.standing) bytes ∷ []) =
    ap (λ (z : Bytes). pieces_in z (put_state st (length bytes))) after ∙ pieces_more text st bytes g u fits in
    ap (λ (k : Bytes → List Piece → ℕ). kept (k (name_in (take st'.used out') st') (pieces_in (take st'.used out') st')) note) ef
    ∙ ap (λ (z : State). kept (f (name_in (take z.used out') z) (pieces_in (take z.used out') z)) note) r.is
    ∙ ap (λ (z : Bytes). kept (f z (pieces_in (take (st.used + (12 + length bytes)) out') (put_state st (length bytes)))) note) n
    ∙ ap (λ (ps : List Piece). kept (f (name_in text st) ps) note) p ∙ h

-- where a name was opened, there is none yet
pub noted_open : (f f' : Bytes → List Piece → ℕ) (out out' : Bytes) (st st' : State) (host : Bytes) (note : Option ℕ)
    → st.used ≤ length out → st.used ≤ 1000000 → if_fits (length out) st (length host + 2) (opened_state st (length host)) ≡ Some st'
    → out' ≡ laid_at st.used (head_of st'.visit letter.Opened (length host + 2) ++ (host ++ crlf)) out → f' ≡ f
    → kept (f host []) note ≡ true → kept (f' (name_in (take st'.used out') st') (pieces_in (take st'.used out') st')) note ≡ true
noted_open f f' out out' st st' host note w few fit t ef h =
    let text = take st.used out in
    let u : st.used ≡ length text = sym (length-take-le st.used out w) in
    let r = room_for (length out) st (length host + 2) (opened_state st (length host)) st' few w fit in
    let d = name_laid st.used st'.visit host out out' t (omega (arith, r.ends)) in
    let v : st'.visit ≡ st.visit + 1 = ap (λ (z : State). z.visit) r.is in
    let ln : length host + 2 ≡ length (host ++ crlf) = sym (length-append host crlf) in
    let after : take (st.used + (12 + (length host + 2))) out' ≡ text ++ written (open_record st host) =
    d.text ∙ ap (λ (z : ℕ). text ++ (head_of z letter.Opened (length host + 2) ++ (host ++ crlf))) v
    ∙ ap (λ (z : ℕ). text ++ (head_of (st.visit + 1) letter.Opened z ++ (host ++ crlf))) ln in
    let n : name_in (take (st.used + (12 + (length host + 2))) out') (opened_state st (length host)) ≡ host =
    ap (λ (z : Bytes). name_in z (opened_state st (length host))) after ∙ name_there text st host u in
    let p : pieces_in (take (st.used + (12 + (length host + 2))) out') (opened_state st (length host)) ≡ [] =
    ap (λ (z : Bytes). pieces_in z (opened_state st (length host))) after
    ∙ ap (λ (z : Bytes). map piece_of (records z)) (past_all text st host u) ∙ ap (map piece_of) records_nil in
    ap (λ (k : Bytes → List Piece → ℕ). kept (k (name_in (take st'.used out') st') (pieces_in (take st'.used out') st')) note) ef
    ∙ ap (λ (z : State). kept (f (name_in (take z.used out') z) (pieces_in (take z.used out') z)) note) r.is
    ∙ ap (λ (z : Bytes). kept (f z (pieces_in (take (st.used + (12 + (length host + 2))) out') (opened_state st (length host)))) note) n
    ∙ ap (λ (ps : List Piece). kept (f host ps) note) p ∙ h

-- an answer that came or was lost: none is due then
some_sized : {A B : Type 0} (f : A → B) (o : Option A) → is_some (option_map f o) ≡ is_some o
some_sized f None = refl
some_sized f (Some x) = refl

pub answered_as : {A B : Type 0} (f : A → B) (st st' : State) (standing : Standing) (came : Bool) (r : Option B) (o : Option A)
    → st' ≡ quiet_state st (standing_if came standing) → came ≡ is_some r → r ≡ option_map f o → st' ≡ quiet_state st (standing_if (is_some o) standing)
answered_as f st st' standing came r o e c h = e ∙ ap (λ (b : Bool). quiet_state st (standing_if b standing)) (c ∙ ap is_some h ∙ some_sized f o)

pub record Stays (out : Bytes) (st : State) : Type 0 where
  pub within : st.used ≤ length out
  pub few : st.used ≤ 1000000
  pub keeps : sound (take st.used out) st ≡ true

pub sound_as : (out : Bytes) (st st' : State) (s : Standing) → st' ≡ quiet_state st s → st.used ≤ length out → st.used ≤ 1000000 → sound (take st.used out) st ≡ true → Stays out st'
sound_as out st st' s e w f h =
    let u = ap (λ (t : State). t.used) e in
    record { within = omega arith; few = omega arith; keeps = ap (λ (t : State). sound (take t.used out) t) e ∙ sound_quiet (take st.used out) st s h }

-- the other side is asked of the visit as it stands
pub asked_handshake : (rule : Rule) (text : Bytes) (st : State) (v : Visit) → v.number ≡ st.visit → v.name.now ≡ name_in text st → v.pieces.now ≡ drop st.start text
    → handshake_to rule v ≡ shaken_in rule text st
asked_handshake rule text st v a b c = rw (a, b, c)

pub asked_reply : (rule : Rule) (text : Bytes) (st : State) (v : Visit) → v.number ≡ st.visit → v.name.now ≡ name_in text st → v.pieces.now ≡ drop st.start text → st.due ≡ true
    → reply_to rule v ≡ waiting_in rule text st
asked_reply rule text st v a b c d = rw (a, b, c, d)

-- by what was noted of that visit
pub noted_asked : (f : Bytes → List Piece → ℕ) (text : Bytes) (st : State) (v : Visit) (n : Option ℕ) → v.name.now ≡ name_in text st → v.pieces.now ≡ drop st.start text
    → kept (f (name_in text st) (pieces_in text st)) n ≡ true → kept (f v.name.now (pieces_of v.pieces.now)) n ≡ true
noted_asked f text st v n a b h = rw (a, b) h

-- what a take makes of the reply that waits
pub record Took (step : Step (Option ℕ)) (held : Bytes) (rule : Rule) (text : Bytes) (total : ℕ) (st : State) (old : Bytes) : Type 0 where
  pub answer : step.answer ≡ Ok (option_map length (waiting_in rule text st))
  pub after : step.after ≡ sense rule text total (quiet_state st (standing_if (is_some (waiting_in rule text st)) st.standing))
  pub holds : held ≡ laid (waiting_in rule text st) old

took_by : (rule : Rule) (text : Bytes) (total : ℕ) (st : State) (old : Bytes) (s : Standing) → s ≡ st.standing → short (length old) ≡ false → is_closed s ≡ false → (o : Option Bytes) → waiting_in rule text st ≡ o
    → Took (taking (sense rule text total st) (length old)) (reply_buffer (sense rule text total st) old) rule text total st old
took_by rule text total st old Closed se e s o w = absurd (true≢false s)
took_by rule text total st old Clear se e s None w = record { answer = rw (e, ← se, w); after = rw (e, ← se, w); holds = rw (e, ← se, w) }
took_by rule text total st old Clear se e s (Some t) w = record { answer = rw (e, ← se, w); after = rw (e, ← se, w); holds = rw (e, ← se, w) }
took_by rule text total st old Covered se e s None w = record { answer = rw (e, ← se, w); after = rw (e, ← se, w); holds = rw (e, ← se, w) }
took_by rule text total st old Covered se e s (Some t) w = record { answer = rw (e, ← se, w); after = rw (e, ← se, w); holds = rw (e, ← se, w) }

pub take_took : (rule : Rule) (text : Bytes) (total : ℕ) (st : State) (old : Bytes) → short (length old) ≡ false → is_closed st.standing ≡ false
    → Took (taking (sense rule text total st) (length old)) (reply_buffer (sense rule text total st) old) rule text total st old
take_took rule text total st old e s = took_by rule text total st old st.standing refl e s (waiting_in rule text st) refl

-- what a cover makes of the answer to a handshake
pub record Shook (step : Step (Option (Trust × ℕ))) (held : Bytes) (rule : Rule) (text : Bytes) (total : ℕ) (st : State) (old : Bytes) : Type 0 where
  pub answer : step.answer ≡ Ok (option_map sized (shaken_in rule text st))
  pub after : step.after ≡ sense rule text total (quiet_state st (standing_if (is_some (shaken_in rule text st)) Covered))
  pub holds : held ≡ laid (names_of (shaken_in rule text st)) old

shook_by : (rule : Rule) (text : Bytes) (total : ℕ) (st : State) (old : Bytes) (s : Standing) → s ≡ st.standing → short (length old) ≡ false → is_clear s ≡ true → (o : Option (Trust × Bytes)) → shaken_in rule text st ≡ o
    → Shook (covering (sense rule text total st) (length old)) (names_buffer (sense rule text total st) old) rule text total st old
shook_by rule text total st old Closed se e s o w = absurd (true≢false (sym s))
shook_by rule text total st old Clear se e s None w = record { answer = rw (e, ← se, w); after = rw (e, ← se, w); holds = rw (e, ← se, w) }
shook_by rule text total st old Clear se e s (Some h) w = record { answer = rw (e, ← se, w); after = rw (e, ← se, w); holds = rw (e, ← se, w) }
shook_by rule text total st old Covered se e s o w = absurd (true≢false (sym s))

pub cover_done : (rule : Rule) (text : Bytes) (total : ℕ) (st : State) (old : Bytes) → short (length old) ≡ false → is_clear st.standing ≡ true
    → Shook (covering (sense rule text total st) (length old)) (names_buffer (sense rule text total st) old) rule text total st old
cover_done rule text total st old e s = shook_by rule text total st old st.standing refl e s (shaken_in rule text st) refl

-- what is laid into a buffer's first 4,096 bytes lies in the buffer
pub waiting_laid : (rule : Rule) (text : Bytes) (st : State) (old front : Bytes) → front ≡ take 4096 old
    → laid (waiting_in rule text st) front ++ drop 4096 old ≡ laid (waiting_in rule text st) old
waiting_laid rule text st old front e = go st.due
  where
    go : (d : Bool) → laid (cond d (fitting (rule.reply st.visit (name_in text st) (pieces_in text st))) None) front ++ drop 4096 old
        ≡ laid (cond d (fitting (rule.reply st.visit (name_in text st) (pieces_in text st))) None) old
    go true = fitting_laid (rule.reply st.visit (name_in text st) (pieces_in text st)) old front e
    go false = fitting_laid None old front e

pub shaken_laid : (rule : Rule) (text : Bytes) (st : State) (old front : Bytes) → front ≡ take 4096 old
    → laid (names_of (shaken_in rule text st)) front ++ drop 4096 old ≡ laid (names_of (shaken_in rule text st)) old
shaken_laid rule text st old front e = names_laid (rule.handshake st.visit (name_in text st) (pieces_in text st)) old front e

-- a call that is refused as the line stands
pub record Refused {R : Type 0} (step : Step R) (m : Meaning) (held old : Bytes) : Type 0 where
  pub is : step ≡ refuse m WrongStanding
  pub holds : held ≡ old

pub take_closed : (rule : Rule) (text : Bytes) (total : ℕ) (st : State) (old : Bytes) → short (length old) ≡ false → is_closed st.standing ≡ true
    → Refused (taking (sense rule text total st) (length old)) (sense rule text total st) (reply_buffer (sense rule text total st) old) old
take_closed rule text total st old e o =
    let s = closed_as st.standing (name_in text st) (pieces_in text st) o in
    record { is = rw (e, s); holds = rw (e, s) }

cover_by : (rule : Rule) (text : Bytes) (total : ℕ) (st : State) (old : Bytes) (s : Standing) → s ≡ st.standing → short (length old) ≡ false → is_clear s ≡ false
    → Refused (covering (sense rule text total st) (length old)) (sense rule text total st) (names_buffer (sense rule text total st) old) old
cover_by rule text total st old Closed se e s = record { is = rw (e, ← se); holds = rw (e, ← se) }
cover_by rule text total st old Clear se e s = absurd (true≢false s)
cover_by rule text total st old Covered se e s = record { is = rw (e, ← se); holds = rw (e, ← se) }

pub cover_not_clear : (rule : Rule) (text : Bytes) (total : ℕ) (st : State) (old : Bytes) → short (length old) ≡ false → is_clear st.standing ≡ false
    → Refused (covering (sense rule text total st) (length old)) (sense rule text total st) (names_buffer (sense rule text total st) old) old
cover_not_clear rule text total st old e s = cover_by rule text total st old st.standing refl e s

-- the reply that waits, and what a take makes of it
pub record Taken (m : Meaning) (old : Bytes) (o : Option Bytes) : Type 0 where
  pub is : taking m (length old) ≡ hearing m o
  pub holds : reply_buffer m old ≡ laid o old

taken_by : (m : Meaning) (old : Bytes) (c : Bool) (name : Bytes) (ps : List Piece) (o : Option Bytes) → short (length old) ≡ false → m.standing ≡ opened c name ps
    → cond m.due (fitting (m.rule.reply m.visit name ps)) None ≡ o → Taken m old o
taken_by m old c name ps o e s w = record { is = rw (e, s, w); holds = rw (e, s, w) }

pub take_done : (rule : Rule) (text : Bytes) (total : ℕ) (st : State) (old : Bytes) (o : Option Bytes) → short (length old) ≡ false → is_closed st.standing ≡ false
    → cond st.due (fitting (rule.reply st.visit (name_in text st) (pieces_in text st))) None ≡ o → Taken (sense rule text total st) old o
take_done rule text total st old o e s w =
    taken_by (sense rule text total st) old (is_covered st.standing) (name_in text st) (pieces_in text st) o e (opened_as st.standing (name_in text st) (pieces_in text st) s) w

-- how the line stands, as it is answered
pub stance_is : (s : Standing) (name : Bytes) (ps : List Piece) → s ≡ stance (standing_of s name ps)
stance_is Closed name ps = refl
stance_is Clear name ps = refl
stance_is Covered name ps = refl

-- a closed line has no reply due, as it is answered
pub idle_is : (s : Standing) (due : Bool) (name : Bytes) (ps : List Piece) → idle_at due (standing_of s name ps) ≡ calm s due
idle_is Closed due name ps = refl
idle_is Clear due name ps = refl
idle_is Covered due name ps = refl
