-- The form of content and header sections (RFC 5322 section 2.1): bytes of 1 to 127 in lines of at most 998 and CRLF, at most 32,768 in all.
use Rattle.std.specs.Prelude.{ℕ, ◌+◌, Bool, false, cond, not, ◌&&◌, List, [], ◌∷◌, length, Ok, Err, Result, ◌==◌, nat_le, nat_lt}
use Rattle.smtp.specs.declared.refusal.Refusal.{Refusal}
use Rattle.smtp.specs.declared.refusal.Refusal.TheVariants.{BadContent}
use Rattle.smtp.specs.Bytes.{within}

-- a byte that may stand in a line: 1 to 127, but neither CR nor LF
abbrev pub plain : ℕ → Bool
plain x = within 1 x 127 && (not (x == 10) && not (x == 13))

-- what is left of the content behind `n` bytes of a line: CR and LF stand only as a pair, which ends the line
abbrev pub lines_from : ℕ → List ℕ → Bool
lines_from n [] = n == 0
lines_from n (x ∷ []) = false
lines_from n (x ∷ (y ∷ s)) =
    cond (x == 13) (cond (y == 10) (lines_from 0 s) false) (cond (nat_lt n 998) (cond (plain x) (lines_from (n + 1) (y ∷ s)) false) false)

abbrev pub well_formed : List ℕ → Bool
well_formed s = nat_le (length s) 32768 && lines_from 0 s

-- what checking answers: 9 where the form is broken
abbrev pub checked : List ℕ → Result (Unit {0}) Refusal
checked s = cond (well_formed s) (Ok tt) (Err BadContent)
