use Rattle.std.proofs.Common.{arith}
use Rattle.std.proofs.lemmas.Bool.Decides.{nat_tests}
use Rattle.message.proofs.Lined.{lines_cut}
use Rattle.message.proofs.lines.LinesIterator.next.Goals as goal

pub returns-clause-steps : goal.returns-clause-steps
returns-clause-steps c =
    lines_cut c.args.self.now.rest.now c.upto-line.result.now c.from-self.result.now (grind (arith, nat_tests)) (simp c.part_len.ensures.is at c.upto-line.ensures.is) c.from-self.ensures.is
