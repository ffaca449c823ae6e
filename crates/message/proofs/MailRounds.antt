-- A MAIL line written and read back, and one read and written again.
use Rattle.std.proofs.Common.{◌≡◌, ℕ, ◌≤◌, Bool, true, false, cond, not, ltb, leb, List, length, take, drop, Ok, Err, Result, sym, refl, ap, ◌∙◌, arith}
use Rattle.std.proofs.lemmas.Bool.{le-ltb, le-leb, ltb-false}
use Rattle.std.proofs.lemmas.List.{take_at}
use Rattle.smtp.specs.declared.refusal.Refusal.{Refusal}
use Rattle.smtp.specs.declared.refusal.Refusal.TheVariants.{BadAddress, ShortBuffer}
use Rattle.message.specs.MailLines.{path_form, Mail, mail_line, written, writing, at_front, buffer_after}
use Rattle.message.specs.MailLinesHold.{Ours, round_trip, again_in, again_after}
use Rattle.message.proofs.MailTexts.{text_path, path_text}
use Rattle.message.proofs.MailWriting.{accepted, filled}
use Rattle.message.proofs.MailLaws.{read_back, ours_written}

-- what the tests of a writer's answer tell
ok_tests : (t f : Bool) (n m : ℕ) → Ok n ≡ cond (not t) (Err BadAddress) (cond f (Err ShortBuffer) (Ok m)) → (t ≡ true) × (f ≡ false) × (n ≡ m)
ok_tests true true n m e = absurd (let z : ◌≡◌ {A = ℕ} 0 1 = cc in omega arith)
ok_tests true false n m e = (refl, refl, cc)
ok_tests false f n m e = absurd (let z : ◌≡◌ {A = ℕ} 0 1 = cc in omega arith)

err_tests : (t f : Bool) (d : Refusal) (m : ℕ) → Err d ≡ cond (not t) (Err BadAddress) (cond f (Err ShortBuffer) (Ok m)) →
    Err d ≡ cond (not t) (Err BadAddress) (cond f (Err ShortBuffer) (Ok true))
err_tests true true d m e = cc
err_tests true false d m e = absurd (let z : ◌≡◌ {A = ℕ} 0 1 = cc in omega arith)
err_tests false f d m e = cc

-- a refusal of the writer is one of the round trip
pub trip_err : (path : List ℕ) (require_tls : Bool) (room : ℕ) (d : Refusal) → Err d ≡ writing path require_tls room → Err d ≡ round_trip path room
trip_err path require_tls room d e = err_tests (path_form path) (ltb room 523) d (length (written path require_tls)) e

trip_tests : (t f : Bool) → t ≡ true → f ≡ false → Ok true ≡ cond (not t) (Err BadAddress) (cond f (Err ShortBuffer) (Ok true))
trip_tests t f a b = rw (a, b)

pub trip_ok : (path : List ℕ) (require_tls : Bool) (room n : ℕ) → Ok n ≡ writing path require_tls room → Ok true ≡ round_trip path room
trip_ok path require_tls room n e =
    let (a, b, m) = ok_tests (path_form path) (ltb room 523) n (length (written path require_tls)) e in
    trip_tests (path_form path) (ltb room 523) a b

-- the line that was written, read as one that came covered
trip_read : (path old after line : List ℕ) (require_tls : Bool) (n : ℕ) → Ok n ≡ writing path require_tls (length old) → after ≡ buffer_after path require_tls old → line ≡ take n after →
    mail_line line true ≡ Ok (record { path = path; place = 11; require_tls = require_tls })
trip_read path old after line require_tls n e f g =
    let (a, b, m) = ok_tests (path_form path) (ltb (length old) 523) n (length (written path require_tls)) e in
    let h = filled (path_form path) (leb 523 (length old)) (at_front (written path require_tls) old) (at_front (written path require_tls) old) old a (le-leb 523 (length old) (ltb-false (length old) 523 b)) refl in
    let i : after ≡ at_front (written path require_tls) old = f ∙ sym h in
    let j : line ≡ written path require_tls = g ∙ ap (take n) i ∙ take_at (written path require_tls) (drop (length (written path require_tls)) old) n (sym m) in
    ap (λ (s : List ℕ). mail_line s true) j ∙ read_back path require_tls (path_text path a)

-- a line in our written form comes out the same
pub ours_again : (line old after : List ℕ) (r : Result ℕ Refusal) → r ≡ again_in (mail_line line true) (length old) → after ≡ again_after (mail_line line true) old →
    Ours line → 523 ≤ length old → (r ≡ Ok (length line)) × (after ≡ at_front line old)
ours_again line old after r e f h l =
    let (path, require_tls, p, g) = ours_written line h in
    let t = text_path path p in
    let i = ap (λ (s : List ℕ). mail_line s true) g ∙ read_back path require_tls p in
    let j = accepted (written path require_tls) (path_form path) (ltb (length old) 523) (length line) t (le-ltb (length old) 523 l) (ap length g) in
    let k = filled (path_form path) (leb 523 (length old)) (at_front line old) (at_front (written path require_tls) old) old t (le-leb 523 (length old) l) (ap (λ (s : List ℕ). at_front s old) g) in
    (e ∙ ap (λ (m : Result Mail Refusal). again_in m (length old)) i ∙ sym j, f ∙ ap (λ (m : Result Mail Refusal). again_after m old) i ∙ sym k)

ok_is : (a b : Mail) (r : Result Mail Refusal) → Ok a ≡ r → r ≡ Ok b → a ≡ b
ok_is a b r e f = cc

not_both : (d : Refusal) (b : Mail) (r : Result Mail Refusal) → Err d ≡ r → r ≡ Ok b → ⊥
not_both d b r e f = let z : ◌≡◌ {A = ℕ} 0 1 = cc in omega arith

-- so it is not refused
pub trip_never : (path old after line : List ℕ) (require_tls : Bool) (n : ℕ) (d : Refusal) → Ok n ≡ writing path require_tls (length old) → after ≡ buffer_after path require_tls old → line ≡ take n after →
    Err d ≡ mail_line line true → ⊥
trip_never path old after line require_tls n d e f g h =
    not_both d (record { path = path; place = 11; require_tls = require_tls }) (mail_line line true) h (trip_read path old after line require_tls n e f g)

-- and says the same
pub trip_says : (path old after line : List ℕ) (require_tls : Bool) (n : ℕ) (mail : Mail) → Ok n ≡ writing path require_tls (length old) → after ≡ buffer_after path require_tls old → line ≡ take n after →
    Ok mail ≡ mail_line line true → (mail.path ≡ path) × (mail.require_tls ≡ require_tls)
trip_says path old after line require_tls n mail e f g h =
    let i = ok_is mail (record { path = path; place = 11; require_tls = require_tls }) (mail_line line true) h (trip_read path old after line require_tls n e f g) in
    (ap (λ (m : Mail). m.path) i, ap (λ (m : Mail). m.require_tls) i)
