-- What a policy says to one host name.
use Rattle.std.specs.Prelude.{ℕ, List, Ok, Err, Result}
use Rattle.smtp.specs.declared.refusal.Refusal.{Refusal}
use Rattle.voucher.specs.declared.policy.Mode.{Mode}
use Rattle.voucher.specs.Policy.{read_policy, policy_set}
use Rattle.voucher.specs.Voucher.{holds}
use Rattle.balgwir.specs.declared.policy_report.PolicyAnswer.{PolicyAnswer}

abbrev pub answer_by : Result (List ℕ × Mode) Refusal → List ℕ → Result PolicyAnswer Refusal
answer_by (Ok read) name = Ok (record { mode = read.1; vouched = holds (policy_set read.1 read.0) name })
answer_by (Err e) name = Err e

-- the policy's mode, and whether the names that it vouches for hold this one
abbrev pub policy_answer : List ℕ → List ℕ → Result PolicyAnswer Refusal
policy_answer text name = answer_by (read_policy text) name
