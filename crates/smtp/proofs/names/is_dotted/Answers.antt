use Rattle.std.proofs.Common.{◌+◌, drop, arith}
use Rattle.std.proofs.lemmas.Bool.Decides.{nat_tests}
use Rattle.smtp.proofs.Named.{runs_dotted, runs_more, runs_long, runs_all}
use Rattle.smtp.proofs.names.is_dotted.Goals as goal
use Rattle.smtp.proofs.names.is_dotted.Goals.{then-b-eq46+else-n-eq0, else-b-eq46+else-n-most+else-not-is_in}

pub loop-b-init : goal.loop-b-init
loop-b-init g c = (omega arith, λ test h. runs_dotted test c.args.most c.args.s.now)

pub returns-then-n-eq0 : goal.returns-then-n-eq0
returns-then-n-eq0 g c = λ test h.
    let i = c.loop-b.invariant.1 test h in
    let e = runs_more test c.args.most c.loop-b.n c.args.s.now c.loop-b.b-index (omega arith) in
    grind (arith, nat_tests)

pub returns-then-n-most : goal.returns-then-n-most
returns-then-n-most g c = λ test h.
    let i = c.loop-b.invariant.1 test h in
    let e = runs_more test c.args.most c.loop-b.n c.args.s.now c.loop-b.b-index (omega arith) in
    let l = runs_long test c.args.most (c.loop-b.n + 1) (drop (c.loop-b.b-index + 1) c.args.s.now) (omega arith) in
    grind (arith, nat_tests)

pub returns-then-not-is_in : goal.returns-then-not-is_in
returns-then-not-is_in g c = λ test h.
    let i = c.loop-b.invariant.1 test h in
    let e = runs_more test c.args.most c.loop-b.n c.args.s.now c.loop-b.b-index (omega arith) in
    let p = h _ _ c.is_in.ensures in
    grind (arith, nat_tests)

pub loop-b-preserved : goal.loop-b-preserved
loop-b-preserved g c = elim c.if-b-eq46.branch [
  | then-b-eq46+else-n-eq0 w ↦ (
    grind (arith, nat_tests),
    λ test h.
        let i = c.loop-b.invariant.1 test h in
        let e = runs_more test c.args.most c.loop-b.n c.args.s.now c.loop-b.b-index (omega arith) in
        grind (arith, nat_tests),
  )
  | else-b-eq46+else-n-most+else-not-is_in w ↦ (
    grind (arith, nat_tests),
    λ test h.
        let i = c.loop-b.invariant.1 test h in
        let e = runs_more test c.args.most c.loop-b.n c.args.s.now c.loop-b.b-index (omega arith) in
        let p = h _ _ w.is_in.ensures in
        grind (arith, nat_tests),
  )
]

pub returns : goal.returns
returns g c = λ test h.
    let i = c.loop-b.invariant.1 test h in
    let e = runs_all test c.args.most c.loop-b.n c.args.s.now c.loop-b.b-index (omega arith) in
    grind (arith, nat_tests)
