use Rattle.std.proofs.Common.{◌≡◌, length}
use Rattle.message.proofs.Stuffed.{Comes}
use Rattle.message.proofs.stuffing.put_stuffed.Given as goal

abbrev pub invariant-loop-line : goal.invariant-loop-line
invariant-loop-line l =
    (goal.iterator-loop-line).can_next l.line-iterator × (goal.iterator-loop-line).is_finite l.line-iterator
    × (l.writer.out.ghost_name ≡ l.initial.writer.out.ghost_name)
    × (length l.writer.out.now ≡ length l.fn.out)
    × Comes l.content l.fn.out l.writer.len l.writer.out.now l.line-iterator.rest.now
