-- How a host answers EHLO, by the code of its reply.
use Rattle.std.specs.Prelude.{ℕ, cond, ◌&&◌, ◌==◌, nat_le}
use Rattle.balgwir.specs.declared.meaning.Answer.{Answer}
use Rattle.balgwir.specs.declared.meaning.Answer.TheVariants.{Accepted, Down, Refused}

-- 250 accepts, 4yz is a host that is down for this visit, and any other code refuses
abbrev pub answer_of : ℕ → Answer
answer_of code = cond (code == 250) Accepted (cond (nat_le 400 code && nat_le code 499) Down Refused)
