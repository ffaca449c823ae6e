use Rattle.std.proofs.Common.{◌≡◌, ℕ, Bool, true, false, length, Ok, Err, refl, ap, ◌∙◌, arith}
use mathlib.Core.Bool.{beq}
use Rattle.std.proofs.lemmas.Result.{err_from_is_err_and}
use Rattle.std.proofs.lemmas.Slice.Eq.{slice_eq-Decides}
use Rattle.message.specs.MailLines.{writing}
use Rattle.message.specs.MailParts.{said}
use Rattle.message.proofs.MailRounds.{trip_err, trip_ok, trip_never, trip_says}
use Rattle.message.proofs.mail_line.mail_round_trip.Goals as goal
use Rattle.std.proofs.lemmas.Bool.Decides.{Decides-eqb}

beq_is : (a b : Bool) → a ≡ b → beq a b ≡ true
beq_is true true e = refl
beq_is true false e = absurd (let z : ◌≡◌ {A = ℕ} 0 1 = cc in omega arith)
beq_is false true e = absurd (let z : ◌≡◌ {A = ℕ} 0 1 = cc in omega arith)
beq_is false false e = refl

pub returns-in_err-n : goal.returns-in_err-n
returns-in_err-n c =
    let (d, f, g) = err_from_is_err_and c.from_residual.result c.from_residual.ensures.1 in
    let h = c.in_err-n.ensures in
    let e : Err d ≡ writing c.args.path.now c.args.require_tls (length c.args.out.now) = rw g h.answer in
    record { answer = f ∙ trip_err c.args.path.now c.args.require_tls (length c.args.out.now) d e; buffer = h.buffer }

pub returns-in_err-line : goal.returns-in_err-line
returns-in_err-line c =
    let w = c.in_ok-n.ensures in
    absurd (trip_never c.args.path.now c.args.out.now c.write_mail_line.new.out c.upto.result.now c.args.require_tls c.in_ok-n.n c.in_err-line.field-0.0
    w.answer w.buffer c.upto.ensures.is c.in_err-line.ensures)

pub returns-then-eq : goal.returns-then-eq
returns-then-eq c =
    let w = c.in_ok-n.ensures in
    let s = trip_says c.args.path.now c.args.out.now c.write_mail_line.new.out c.upto.result.now c.args.require_tls c.in_ok-n.n (said c.in_ok-line.line)
    w.answer w.buffer c.upto.ensures.is c.in_ok-line.ensures in
    let b = beq_is c.require_tls.result c.args.require_tls (c.require_tls.ensures ∙ s.1) in
    record { answer = ap Ok b ∙ trip_ok c.args.path.now c.args.require_tls (length c.args.out.now) c.in_ok-n.n w.answer; buffer = w.buffer }

pub returns-else-eq : goal.returns-else-eq
returns-else-eq c =
    let w = c.in_ok-n.ensures in
    let s = trip_says c.args.path.now c.args.out.now c.write_mail_line.new.out c.upto.result.now c.args.require_tls c.in_ok-n.n (said c.in_ok-line.line)
    w.answer w.buffer c.upto.ensures.is c.in_ok-line.ensures in
    let b = (slice_eq-Decides Decides-eqb c.path.result.now c.args.path.now c.eq.result c.eq.ensures).1 (c.path.ensures ∙ s.0) in
    record { answer = ap Ok b ∙ trip_ok c.args.path.now c.args.require_tls (length c.args.out.now) c.in_ok-n.n w.answer; buffer = w.buffer }
