-- The records of a text, handed out one by one.
use Rattle.std.proofs.Common.{◌≡◌, ◌<◌, ◌∷◌, length, drop, Some, None, refl, ap, ◌∙◌, sym, subst, arith}
use Rattle.std.proofs.lemmas.Iterator.{YieldsList}
use Rattle.std.proofs.lemmas.Iterator.Consumers.{YieldsList-from_shown}
use Rattle.line.specs.declared.record.Entry.{Entry}
use Rattle.line.specs.declared.entries.Entries.{Entries}
use Rattle.line.specs.Entries.{record_of, left, records_left, Hands}
use Rattle.line.specs.Layout.{record_at, records, whole, size_of}
use Rattle.line.specs.Model.{Bytes}
use Rattle.line.proofs.Laws.{records_step, records_none, whole_step}

-- a record stands at the front of what is left, or none
pub hands_first : (s t : Entries) (e : Entry) → record_at (left s) ≡ Some (record_of e) → left t ≡ drop (size_of (record_of e)) (left s) → Hands s (Some e) t
hands_first s t e h b = record {
  first = records_step (left s) (record_of e) h ∙ ap (λ (x : Bytes). record_of e ∷ records x) (sym b);
  there = sym h;
  behind = b;
  ends = ap whole b ∙ sym (whole_step (left s) (record_of e) h);
}

pub hands_none : (s : Entries) → record_at (left s) ≡ None → Hands s None s
hands_none s h = let e = records_none (left s) h in record { first = (e, e); there = sym h; behind = refl; ends = refl }

-- one fewer is left then
pub fewer_left : (s t : Entries) (e : Entry) → record_at (left s) ≡ Some (record_of e) → left t ≡ drop (size_of (record_of e)) (left s)
    → length (records_left t) < length (records_left s)
fewer_left s t e h b = omega (arith, ap length (hands_first s t e h b).first)

-- a chain over the records of a text
pub records_yielded : (s : Entries) (text : Bytes) → left s ≡ text → YieldsList Hands record_of s (records text)
records_yielded s text e =
    subst (λ (x : Bytes). YieldsList Hands record_of s (records x)) e
    (YieldsList-from_shown Hands record_of records_left (λ s t h. ap length h.first.0) (λ s x t h. h.first) s)
