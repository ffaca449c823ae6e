use Rattle.std.proofs.Common.{arith}
use Rattle.std.proofs.lemmas.Bool.Decides.{nat_tests}
use Rattle.smtp.specs.Parts.{parts}
use Rattle.smtp.proofs.Named.{host_once}
use Rattle.smtp.proofs.names.names_cover.Goals as goal

pub returns-then-is_host_name : goal.returns-then-is_host_name
returns-then-is_host_name c = let e = host_once c.args.host.now (parts 32 c.args.text.now) in grind (arith, nat_tests)

pub returns-else-is_host_name : goal.returns-else-is_host_name
returns-else-is_host_name c = let e = host_once c.args.host.now (parts 32 c.args.text.now) in grind (arith, nat_tests)
