use Rattle.std.proofs.Common.{sym, ap, ◌∙◌}
use Rattle.std.specs.Str.{bytes_eq}
use Rattle.line.proofs.Columns.{value_five, number_by}
use Rattle.line.proofs.record.number_in.Goals as goal

pub returns : goal.returns
returns c =
    let v = value_five c.args.columns c.well_formed.0.1.0.1 in
    c.then_some.ensures ∙ sym (number_by c.args.columns _ c.eq.result (cc v) (c.eq.ensures ∙ ap (bytes_eq c.args.columns) c.columns_of.ensures))
