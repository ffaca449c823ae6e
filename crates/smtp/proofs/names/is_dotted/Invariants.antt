use Rattle.std.proofs.Common.{◌≡◌, ◌≤◌, ℕ, Bool, drop}
use Rattle.smtp.specs.Bytes.{Computes}
use Rattle.smtp.specs.Names.{dotted}
use Rattle.smtp.proofs.Named.{runs}
use Rattle.smtp.proofs.names.is_dotted.Given as goal

abbrev pub invariant-loop-b : goal.invariant-loop-b
invariant-loop-b g l =
    (l.n ≤ l.most)
    × ((test : ℕ → Bool) → Computes (λ b r. g.F.Fn.post l.is_in (b, tt) r) test → runs test l.most l.n (drop l.b-index l.s) ≡ dotted test l.most l.s)
