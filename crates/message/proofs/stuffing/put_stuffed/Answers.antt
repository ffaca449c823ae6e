use Rattle.std.proofs.Common.{arith, rules}
use Rattle.std.proofs.lemmas.Bool.Decides.{nat_tests}
use Rattle.message.proofs.Stuffed.{line_room, end_room, all_came}
use Rattle.message.proofs.stuffing.put_stuffed.Goals as goal
use Rattle.message.proofs.stuffing.put_stuffed.Goals.{then-is_dotted, else-is_dotted}

pub put-requires : goal.put-requires
put-requires c =
    let room = line_room c.args.content.now c.args.out.now c.loop-line.writer.len c.loop-line.writer.out.now c.loop-line.line-iterator.rest.now c.in-Some.line.now c.next.new.self.rest.now c.is_dotted.result
    c.requires c.loop-line.invariant.4 c.in-Some.ensures.steps c.is_dotted.ensures in
    let same = c.loop-line.invariant.3 in
    grind (arith, nat_tests)

pub put-requires-in-loop-line : goal.put-requires-in-loop-line
put-requires-in-loop-line c =
    let room = line_room c.args.content.now c.args.out.now c.loop-line.writer.len c.loop-line.writer.out.now c.loop-line.line-iterator.rest.now c.in-Some.line.now c.next.new.self.rest.now c.is_dotted.result
    c.requires c.loop-line.invariant.4 c.in-Some.ensures.steps c.is_dotted.ensures in
    let same = c.loop-line.invariant.3 in
    elim c.if-is_dotted.branch [ then-is_dotted w ↦ grind (arith, nat_tests) | else-is_dotted w ↦ grind (arith, nat_tests) ]

pub put-requires-2 : goal.put-requires-2
put-requires-2 c =
    let room = end_room c.args.content.now c.args.out.now c.loop-line.writer.len c.loop-line.writer.out.now c.loop-line.line-iterator.rest.now c.requires c.loop-line.invariant.4 in
    let same = c.loop-line.invariant.3 in
    omega arith

pub returns : goal.returns
returns c =
    let all = all_came c.args.content.now c.args.out.now c.loop-line.writer.len c.loop-line.writer.out.now c.loop-line.line-iterator.rest.now c.put-2.new.self.len c.put-2.new.self.out.now
    c.in-None.ensures.steps.0 c.put-2.ensures.written c.loop-line.invariant.4 in
    search rules
