-- A MAIL line read: which check gives the answer.
use Rattle.std.proofs.Common.{◌≡◌, ℕ, ◌≤◌, Bool, true, false, cond, not, ◌&&◌, ◌||◌, ltb, List, length, Some, None, Ok, Err, Result, sym, refl, ap, ◌∙◌, arith}
use Rattle.std.proofs.lemmas.Bool.Decides.{nat_tests}
use Rattle.std.proofs.lemmas.Bool.{true≢false}
use Rattle.smtp.specs.declared.refusal.Refusal.{Refusal}
use Rattle.smtp.specs.declared.refusal.Refusal.TheVariants.{MailLineForm, UnknownOption, RepeatedOption, RequireTlsInClear}
use Rattle.smtp.specs.Bytes.{all, some}
use Rattle.message.specs.declared.mail_options.Options.{Options}
use Rattle.message.specs.MailLines.{Mail, inner, path_of, tail_of, options_of, path_form, ends, options_part, mail_form, is_known, is_require_tls, is_size, is_ret, repeated, mail_of, mail_line}
use Rattle.message.specs.MailParts.{is_seen, is_repeated, command_of, options_in, checked}
use Rattle.message.proofs.MailOptions.{seen_is, repeated_is}
use Rattle.message.proofs.MailParted.{some_cond, none_test}

-- what comes of a line whose options were checked
abbrev after : Result (Unit {0}) Refusal → Mail → Result Mail Refusal
after (Ok x) mail = Ok mail
after (Err e) mail = Err e

-- the checks behind the length, by their tests
abbrev rest : Bool → Bool → Bool → Bool → Mail → Result Mail Refusal
rest form known twice clear mail =
    cond (not form) (Err MailLineForm) (cond (not known) (Err UnknownOption) (cond twice (Err RepeatedOption) (cond clear (Err RequireTlsInClear) (Ok mail))))

not_long : (line : List ℕ) (covered : Bool) → length line ≤ 523 →
    mail_line line covered ≡ rest (mail_form line) (all is_known (options_of line)) (repeated (options_of line)) (some is_require_tls (options_of line) && not covered) (mail_of line)
not_long line covered h = let e : ltb 523 (length line) ≡ false = grind (arith, nat_tests) in simp e

-- the form by its tests: the two ends, a `>`, the path, the options
form_cut : (a b p o : Bool) → (a && b) ≡ false → (a && ((b && p) && o)) ≡ false
form_cut true true p o e = absurd (true≢false e)
form_cut true false p o e = refl
form_cut false b p o e = refl

form_no_path : (a b p o : Bool) → p ≡ false → (a && ((b && p) && o)) ≡ false
form_no_path true true true o e = absurd (true≢false e)
form_no_path true true false o e = refl
form_no_path true false p o e = refl
form_no_path false b p o e = refl

form_options : (a b p o : Bool) → (a && b) ≡ true → p ≡ true → (a && ((b && p) && o)) ≡ o
form_options true true true o e f = refl
form_options true true false o e f = absurd (true≢false (sym f))
form_options true false p o e f = absurd (true≢false (sym e))
form_options false b p o e f = absurd (true≢false (sym e))

-- the form is broken
no_form : (line : List ℕ) (covered : Bool) → length line ≤ 523 → mail_form line ≡ false → Err MailLineForm ≡ mail_line line covered
no_form line covered h f = sym (not_long line covered h ∙ ap (λ (b : Bool). rest b (all is_known (options_of line)) (repeated (options_of line)) (some is_require_tls (options_of line) && not covered) (mail_of line)) f)

pub no_command : (line : List ℕ) (covered : Bool) → length line ≤ 523 → None ≡ command_of line → Err MailLineForm ≡ mail_line line covered
no_command line covered h e =
    let f = none_test (ends line && ltb (length (path_of line)) (length (inner line))) (path_of line, tail_of line) e in
    no_form line covered h (form_cut (ends line) _ _ _ f)

pub no_path : (line path tail : List ℕ) (covered : Bool) → length line ≤ 523 → Some (path, tail) ≡ command_of line → path_form path ≡ false → Err MailLineForm ≡ mail_line line covered
no_path line path tail covered h e n =
    let (f, g) = some_cond (ends line && ltb (length (path_of line)) (length (inner line))) (path_of line, tail_of line) (path, tail) e in
    let p : path_form (path_of line) ≡ false = ap path_form (sym (ap (λ (x : List ℕ × List ℕ). x.0) g)) ∙ n in
    no_form line covered h (form_no_path (ends line) _ _ _ p)

-- the options decide
by_options : (o : Options) (covered : Bool) (mail : Mail) →
    rest o.formed o.known (is_repeated o.require_tls || (is_repeated o.size || is_repeated o.ret)) (is_seen o.require_tls && not covered) mail ≡ after (checked o covered) mail
by_options o covered mail = by o.formed o.known (is_repeated o.require_tls || (is_repeated o.size || is_repeated o.ret)) (is_seen o.require_tls && not covered)
  where
    by : (form known two clear : Bool) → rest form known two clear mail ≡
        after (cond (not form) (Err MailLineForm) (cond (not known) (Err UnknownOption) (cond two (Err RepeatedOption) (cond clear (Err RequireTlsInClear) (Ok tt))))) mail
    by true true true clear = refl
    by true true false true = refl
    by true true false false = refl
    by true false two clear = refl
    by false known two clear = refl

by_check : (line path tail : List ℕ) (o : Options) (covered : Bool) → length line ≤ 523 → Some (path, tail) ≡ command_of line → path_form path ≡ true → o ≡ options_in tail →
    after (checked o covered) (record { path = path; place = 11; require_tls = is_seen o.require_tls }) ≡ mail_line line covered
by_check line path tail o covered h e p i =
    let (f, g) = some_cond (ends line && ltb (length (path_of line)) (length (inner line))) (path_of line, tail_of line) (path, tail) e in
    let a : path ≡ path_of line = ap (λ (x : List ℕ × List ℕ). x.0) g in
    let b : tail ≡ tail_of line = ap (λ (x : List ℕ × List ℕ). x.1) g in
    let q : path_form (path_of line) ≡ true = ap path_form (sym a) ∙ p in
    let j : o ≡ options_in (tail_of line) = i ∙ ap options_in b in
    let k : mail_form line ≡ options_part line = form_options (ends line) _ _ _ f q in
    sym (not_long line covered h
    ∙ ap (λ (b : Bool). rest b (all is_known (options_of line)) (repeated (options_of line)) (some is_require_tls (options_of line) && not covered) (mail_of line)) k
    ∙ (λ x. rest (options_part line) (all is_known (options_of line)) (sym (repeated_is is_require_tls (options_of line)) x || (sym (repeated_is is_size (options_of line)) x || sym (repeated_is is_ret (options_of line)) x)) (sym (seen_is is_require_tls (options_of line)) x && not covered) (mail_of line))
    ∙ by_options (options_in (tail_of line)) covered (mail_of line)
    ∙ sym (λ x. after (checked (j x) covered) (record { path = a x; place = 11; require_tls = (ap (λ (o : Options). is_seen o.require_tls) j ∙ seen_is is_require_tls (options_of line)) x })))

pub by_ok : (line path tail : List ℕ) (o : Options) (covered : Bool) → length line ≤ 523 → Some (path, tail) ≡ command_of line → path_form path ≡ true → o ≡ options_in tail →
    checked o covered ≡ Ok tt → Ok (record { path = path; place = 11; require_tls = is_seen o.require_tls }) ≡ mail_line line covered
by_ok line path tail o covered h e p i k =
    ap (λ (r : Result (Unit {0}) Refusal). after r (record { path = path; place = 11; require_tls = is_seen o.require_tls })) (sym k) ∙ by_check line path tail o covered h e p i

pub by_err : (line path tail : List ℕ) (o : Options) (covered : Bool) (d : Refusal) → length line ≤ 523 → Some (path, tail) ≡ command_of line → path_form path ≡ true → o ≡ options_in tail →
    checked o covered ≡ Err d → Err d ≡ mail_line line covered
by_err line path tail o covered d h e p i k =
    ap (λ (r : Result (Unit {0}) Refusal). after r (record { path = path; place = 11; require_tls = is_seen o.require_tls })) (sym k) ∙ by_check line path tail o covered h e p i
