use Rattle.std.proofs.Common.{◌≡◌, ℕ, Bool, false, List, Some, None, sym, refl, ap, ◌∙◌, subst, rules}
use Rattle.std.specs.Option.{option_map}
use Rattle.smtp.specs.Read.{held, read_reply}
use Rattle.smtp.specs.Replies.{line_at, reply_code, well_formed}
use Rattle.smtp.specs.WireLines.{line_of}
use Rattle.smtp.proofs.Reading.{Decides, decides_more, decides_none, decides_start, first_code}
use Rattle.smtp.proofs.reply.Reply.read.Goals as goal

-- the same, by what the variables hold
carried : (s : List ℕ) {last last' : Bool} {code code' : ℕ} {rest rest' : List ℕ} → last ≡ last' → code ≡ code' → rest ≡ rest' → Decides s last code rest → Decides s last' code' rest'
carried s {last} {last'} {code} {code'} {rest} {rest'} e f g d =
    subst (λ (b : Bool). Decides s b code' rest') e (subst (λ (n : ℕ). Decides s last n rest') f (subst (λ (t : List ℕ). Decides s last code t) g d))

malformed : (s : List ℕ) → well_formed s ≡ false → None ≡ read_reply s
malformed s e = simp e

pub loop-first-init : goal.loop-first-init
loop-first-init c =
    let s = c.args.bytes.now in
    let l = line_of c.in_ok-first.first in
    let i : line_at s ≡ Some l = sym c.in_ok-first.ensures.is in
    let f = first_code s l i in
    let d = (decides_more s (reply_code s) l s (decides_start s) i).0 (sym f) in
    (sym f, carried s refl f (search (rules)) d)

pub returns-in_err-line : goal.returns-in_err-line
returns-in_err-line c =
    let s = c.args.bytes.now in
    let d = carried s (sym c.is_last.ensures ∙ c.loop-first-test.true) refl refl c.loop-first.invariant.1 in
    ap (option_map held) c.from_residual-in_err-line.ensures ∙ malformed s (decides_none s _ _ d (sym c.in_err-line.ensures.is))

pub returns-then-line-first : goal.returns-then-line-first
returns-then-line-first c =
    let s = c.args.bytes.now in
    let d = carried s (sym c.is_last.ensures ∙ c.loop-first-test.true) refl refl c.loop-first.invariant.1 in
    malformed s ((decides_more s _ (line_of c.in_ok-line.line) _ d (sym c.in_ok-line.ensures.is)).1 c.if-line-first.true)

pub loop-first-preserved : goal.loop-first-preserved
loop-first-preserved c =
    let s = c.args.bytes.now in
    let l = line_of c.in_ok-line.line in
    let d = carried s (sym c.is_last.ensures ∙ c.loop-first-test.true) refl refl c.loop-first.invariant.1 in
    let e = (decides_more s _ l _ d (sym c.in_ok-line.ensures.is)).0 c.if-line-first.false in
    (c.loop-first.invariant.0, carried s refl refl (search (rules)) e)
