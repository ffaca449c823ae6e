use Rattle.std.proofs.Common.{◌≡◌, drop, Some, None, Option, sym, ap, ◌∙◌, subst}
use Rattle.std.specs.Option.{option_map}
use Rattle.line.specs.declared.record.Entry.{Entry}
use Rattle.line.specs.Entries.{record_of, left, Hands}
use Rattle.line.specs.Layout.{record_at, size_of}
use Rattle.line.proofs.Handing.{hands_first, hands_none, fewer_left}
use Rattle.line.proofs.entries.EntriesIterator.next.Goals as goal

pub returns-in_err-entry-clause-steps : goal.returns-in_err-entry-clause-steps
returns-in_err-entry-clause-steps c =
    let s = c.args.self.now in
    let e : record_at (left s) ≡ None = sym c.read.ensures.is ∙ ap (option_map record_of) c.in_err-entry.was in
    subst (λ (r : Option Entry). Hands s r s) (sym c.from_residual.ensures) (hands_none s e)

pub returns-clause-steps : goal.returns-clause-steps
returns-clause-steps c =
    let e : record_at (left c.args.self.now) ≡ Some (record_of c.in_ok-entry.entry) = sym c.read.ensures.is ∙ ap (option_map record_of) c.in_ok-entry.was in
    let b : left c.of.result ≡ drop (size_of (record_of c.in_ok-entry.entry)) (left c.args.self.now) = cc in
    hands_first c.args.self.now c.of.result c.in_ok-entry.entry e b

pub returns-clause-goes : goal.returns-clause-goes
returns-clause-goes c =
    let e : record_at (left c.args.self.now) ≡ Some (record_of c.in_ok-entry.entry) = sym c.read.ensures.is ∙ ap (option_map record_of) c.in_ok-entry.was in
    let b : left c.of.result ≡ drop (size_of (record_of c.in_ok-entry.entry)) (left c.args.self.now) = cc in
    record {
      on = λ h. (tt, tt, fewer_left c.args.self.now c.of.result c.in_ok-entry.entry e b);
      keeps = tt;
      rests = λ h. tt;
    }
