-- What is answered of a reply, by what reading it gives.
use Rattle.std.proofs.Common.{◌≡◌, ℕ, Bool, true, false, cond, List, pos, Some, None, ap, arith}
use Rattle.smtp.specs.Keywords.{listed}
use Rattle.smtp.specs.Replies.{well_formed, reply_code}
use Rattle.smtp.specs.Read.{read_reply}
use Rattle.balgwir_c.specs.Calls.{code_int, lists_int}
use Rattle.balgwir_c.specs.Numbers.{bool_int}

abbrev Held : Type 0
Held = List ℕ × ℕ

some_code : (well : Bool) (s : List ℕ) (code : ℕ) (p : Held) → Some p ≡ cond well (Some (s, code)) None → pos p.1 ≡ pos (cond well code 0)
some_code true s code p e = let q : p ≡ (s, code) = cc in ap (λ (x : Held). pos x.1) q
some_code false s code p e = absurd (let z : ◌≡◌ {A = ℕ} 0 1 = cc in omega arith)

pub code_some : (s : List ℕ) (p : Held) → Some p ≡ read_reply s → pos p.1 ≡ code_int s
code_some s p e = some_code (well_formed s) s (reply_code s) p e

some_listed : (well : Bool) (s word : List ℕ) (code : ℕ) (p : Held) → Some p ≡ cond well (Some (s, code)) None → bool_int (listed p.0 word) ≡ bool_int (cond well (listed s word) false)
some_listed true s word code p e = let q : p ≡ (s, code) = cc in ap (λ (x : Held). bool_int (listed x.0 word)) q
some_listed false s word code p e = absurd (let z : ◌≡◌ {A = ℕ} 0 1 = cc in omega arith)

pub lists_some : (s word : List ℕ) (p : Held) → Some p ≡ read_reply s → bool_int (listed p.0 word) ≡ lists_int s word
lists_some s word p e = some_listed (well_formed s) s word (reply_code s) p e
