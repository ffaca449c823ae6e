use Rattle.std.proofs.Common.{◌∙◌, ap, arith}
use Rattle.std.proofs.lemmas.Bool.Decides.{nat_tests}
use Rattle.smtp.proofs.Named.{sought, starred, left_ends, left_fits, left_miss, left_start}
use Rattle.smtp.proofs.Parted.{part_within}
use Rattle.smtp.proofs.names.some_covers.Goals as goal
use Rattle.smtp.proofs.names.some_covers.Goals.{then-k-host-2+then-eq_ignore_ascii_case, else-k-host-2}

pub bytes-init : goal.bytes-init
bytes-init c =
    let host = c.args.host.now in
    let text = c.args.text.now in
    let b = part_within 46 host in
    let e = left_start host text c.names.at c.args.dot c.starts_with-starred.result c.requires (c.starts_with-starred.ensures.value ∙ ap starred c.from.ensures.is) in
    grind (arith, nat_tests)

pub bytes-preserved : goal.bytes-preserved
bytes-preserved c =
    let host = c.args.host.now in
    let text = c.args.text.now in
    elim c.if-k-host-2.branch [
      | then-k-host-2+then-eq_ignore_ascii_case w ↦
          let e = left_fits host c.bytes.same host c.bytes.k text c.bytes.i (omega arith) (omega arith) c.if-text-i-eq32.false (grind (arith, nat_tests)) in grind (arith, nat_tests)
      | else-k-host-2 w ↦ let e = left_miss host c.bytes.same host c.bytes.k text c.bytes.i (omega arith) c.if-text-i-eq32.false (λ a b. grind (arith, nat_tests)) in grind (arith, nat_tests)
    ]

pub names-preserved : goal.names-preserved
names-preserved c =
    let e = left_ends c.args.host.now c.bytes.same c.args.host.now c.bytes.k c.args.text.now c.bytes.i (omega arith) (λ l. grind (arith, nat_tests)) in
    grind (arith, nat_tests)

pub returns-then-k-host : goal.returns-then-k-host
unfolding sought
returns-then-k-host c =
    let e = left_ends c.args.host.now c.bytes.same c.args.host.now c.bytes.k c.args.text.now c.bytes.i (omega arith) (λ l. grind (arith, nat_tests)) in
    grind (arith, nat_tests)

pub returns-after-names : goal.returns-after-names
unfolding sought
returns-after-names c = grind (arith, nat_tests)
