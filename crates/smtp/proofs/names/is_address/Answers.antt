use Rattle.std.proofs.Common.{ap, arith}
use Rattle.std.proofs.lemmas.Bool.Decides.{nat_tests}
use Rattle.smtp.specs.Names.{atom_byte, dotted, host_name}
use Rattle.smtp.proofs.Named.{address_at}
use Rattle.smtp.proofs.names.is_address.Goals as goal
use Rattle.smtp.proofs.names.is_address.Goals.{then-n-s, else-n-s}

pub returns-then-is_dotted : goal.returns-then-is_dotted
returns-then-is_dotted c =
    let e = address_at c.args.s.now c.part_len-n.result c.part_len-n.ensures.is in
    let h = ap host_name c.from.ensures.is in
    grind (arith, nat_tests)

pub returns-else-is_dotted : goal.returns-else-is_dotted
returns-else-is_dotted c =
    let e = address_at c.args.s.now c.part_len-n.result c.part_len-n.ensures.is in
    elim c.if-n-s.branch [ then-n-s w ↦ let h = ap (dotted atom_byte 64) w.upto.ensures.is in grind (arith, nat_tests) | else-n-s w ↦ grind (arith, nat_tests) ]
