-- Each turn takes one record more to the front; a return is at the first fault, or at the end.
use Rattle.std.proofs.Common.{◌≡◌, ℕ, ◌+◌, drop, drop-drop, Some, None, sym, ap, ◌∙◌, subst, arith}
use Rattle.line.specs.Entries.{record_of, left}
use Rattle.line.specs.Layout.{record_at, size_of}
use Rattle.line.specs.Model.{Bytes}
use Rattle.balgwir.proofs.Fronts.{Front, front_none, front_more, first_layout}
use Rattle.balgwir.proofs.sheet_fault.first_fault.Goals as goal

pub loop-entry-init : goal.loop-entry-init
loop-entry-init c = (tt, tt, front_none c.args.sheet.now, ap left c.into_iter-entry-iterator.ensures.into_iter_gives ∙ c.of-entry-items.ensures)

pub overflow_add-place : goal.overflow_add-place
overflow_add-place c =
    let s = c.args.sheet.now in
    let is : record_at (drop c.loop-entry.place s) ≡ Some (record_of c.in-Some.entry) = ap record_at (sym c.loop-entry.invariant.3) ∙ sym c.in-Some.ensures.steps.there in
    let f = front_more s c.loop-entry.number c.loop-entry.place c.loop-entry.least (record_of c.in-Some.entry) c.loop-entry.invariant.2 is c.in_default.ensures in
    omega (arith, f.within)

pub loop-entry-preserved : goal.loop-entry-preserved
loop-entry-preserved c =
    let s = c.args.sheet.now in
    let r = record_of c.in-Some.entry in
    let h = c.in-Some.ensures.steps in
    let is : record_at (drop c.loop-entry.place s) ≡ Some r = ap record_at (sym c.loop-entry.invariant.3) ∙ sym h.there in
    let P : ℕ → Type 0 = λ n. Front s (c.loop-entry.number + 1) (c.loop-entry.place + n) r.visit in
    let Q : ℕ → Type 0 = λ n. left c.next.new.self ≡ drop (c.loop-entry.place + n) s in (
      tt,
      tt,
      subst P (sym c.size-place.ensures) (front_more s c.loop-entry.number c.loop-entry.place c.loop-entry.least r c.loop-entry.invariant.2 is c.in_default.ensures),
      subst Q (sym c.size-place.ensures) (h.behind ∙ (ap (λ (t : Bytes). drop (size_of r) t) c.loop-entry.invariant.3 ∙ drop-drop (size_of r) c.loop-entry.place s)),
    )

pub returns : goal.returns
returns c =
    let s = c.args.sheet.now in
    let none : record_at (drop c.loop-entry.place s) ≡ None = ap record_at (sym c.loop-entry.invariant.3) ∙ sym c.in-None.ensures.steps.there in
    first_layout s c.loop-entry.number c.loop-entry.place c.loop-entry.least c.loop-entry.invariant.2 (omega arith) none
