-- What the reader of policies hands out.
use Rattle.std.specs.Prelude.{ℕ, List, Ok, Err, Result}
use Rattle.smtp.specs.declared.refusal.Refusal.{Refusal}
use Rattle.voucher.specs.declared.policy.Mode.{Mode}
use Rattle.voucher.specs.declared.policy.Policy.{Policy}

-- a policy as the reader hands it out
abbrev pub held : Result Policy Refusal → Result (List ℕ × Mode) Refusal
held (Ok p) = Ok (p.text.now, p.mode)
held (Err e) = Err e
