use Rattle.std.proofs.Common.{◌++◌, ap, ◌∙◌}
use Rattle.line.specs.Model.{Bytes}
use Rattle.line.specs.Buffers.{laid_at}
use Rattle.line.proofs.peer_line.PeerLine.write_record.Goals as goal

pub returns-clause-laid : goal.returns-clause-laid
returns-clause-laid g c =
    let a = c.args in
    let s = a.self.now in
    c.lay_parts.ensures.laid ∙ ap (λ (z : Bytes). laid_at s.state.used (z ++ (a.text.now ++ a.ending.now)) s.out.now) c.head_of-head.ensures
