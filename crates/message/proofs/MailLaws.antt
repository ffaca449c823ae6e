-- The laws of MAIL lines.
use Rattle.std.proofs.Common.{◌≡◌, ℕ, ◌-◌, ◌<◌, ◌≤◌, Bool, true, false, cond, not, ◌&&◌, eqb, ltb, List, [], ◌∷◌, ◌++◌, length, take, drop, Ok, Err, codes, Result, sym, refl, ap, ◌∙◌, subst, inl, inr, arith, MatchResult}
use Rattle.std.proofs.lemmas.Bool.Decides.{nat_tests}
use Rattle.std.proofs.lemmas.Bool.{true≢false, and_parts, and_from, eqb-true, eq-eqb, lt-ltb, le-ltb, ltb-true, and_right}
use Rattle.std.proofs.lemmas.List.{append_assoc, append-nil, length-append, length-map, length-drop, take_at, drop_at, take-append-drop, nil_from_length}
use Rattle.std.specs.List.{AllByRecursion}
use Rattle.smtp.specs.declared.refusal.Refusal.{Refusal}
use Rattle.smtp.specs.Bytes.{lowered, same, all, some}
use Rattle.smtp.specs.Parts.{first_part, other_parts, behind_first}
use Rattle.smtp.specs.Replies.{crlf_first}
use Rattle.message.specs.MailLines.{mail_from, crlf, inner, path_of, tail_of, options_of, path_form, option_form, ends, path_part, options_part, mail_form, is_known, is_require_tls, repeated, Mail, mail_of, mail_line, ending, written}
use Rattle.message.specs.MailLinesHold.{PathText, OptionText, made, Parts, FormHolds, PartsHold, PlaceHolds, ReadBack, Ours, WrittenAgain}
use Rattle.message.specs.MailLinesShown.{MailLinesShown}
use Rattle.message.proofs.MailTexts.{alike_same, same_alike, first_behind, behind_behind, split_first, blanked, split_options, text_path, path_text, path_lacks, options_text, blanked_first, blanked_options}
use Rattle.message.proofs.MailWriting.{path_length, ending_length}

-- a text with CRLF at its end
with_crlf : (body : List ℕ) → (take (length (body ++ crlf) - 2) (body ++ crlf) ≡ body) × (crlf_first (drop (length (body ++ crlf) - 2) (body ++ crlf)) ≡ true)
with_crlf body =
    let n : length body ≡ length (body ++ crlf) - 2 = rw length-append (omega arith) in
    (take_at body crlf _ n, ap crlf_first (drop_at body crlf _ n))

-- a line made of its parts, and its CRLF
made_front : (words path : List ℕ) (options : List (List ℕ)) → made words path options ≡ (words ++ (path ++ (62 ∷ blanked options))) ++ crlf
made_front words path options = simp append_assoc

-- the parts of a line, read again
record Again (words path : List ℕ) (options : List (List ℕ)) (line : List ℕ) : Type 0 where
  pub closed : crlf_first (drop (length line - 2) line) ≡ true
  pub first : take 11 (take (length line - 2) line) ≡ words
  pub mid : inner line ≡ path ++ (62 ∷ blanked options)
  pub path_is : path_of line ≡ path
  pub tail_is : tail_of line ≡ blanked options
  pub options_are : options_of line ≡ options

again : (words path : List ℕ) (options : List (List ℕ)) (line : List ℕ) → Parts words path options → line ≡ (words ++ (path ++ (62 ∷ blanked options))) ++ crlf → Again words path options line
again words path options line (a, p, o) e =
    let (t, d) = with_crlf (words ++ (path ++ (62 ∷ blanked options))) in
    let u : take (length line - 2) line ≡ words ++ (path ++ (62 ∷ blanked options)) = ap (λ (s : List ℕ). take (length s - 2) s) e ∙ t in
    let n : length words ≡ 11 = sym (length-map words lowered) ∙ ap length a in
    let m : inner line ≡ path ++ (62 ∷ blanked options) = ap (drop 11) u ∙ drop_at words (path ++ (62 ∷ blanked options)) 11 n in
    let l = path_lacks path p in
    let b : tail_of line ≡ blanked options = ap (behind_first 62) m ∙ behind_behind 62 path (62 ∷ blanked options) l in
    record {
      closed = ap (λ (s : List ℕ). crlf_first (drop (length s - 2) s)) e ∙ d;
      first = ap (take 11) u ∙ take_at words (path ++ (62 ∷ blanked options)) 11 n;
      mid = m;
      path_is = ap (first_part 62) m ∙ first_behind 62 path (62 ∷ blanked options) l ∙ append-nil path;
      tail_is = b;
      options_are = ap (other_parts 32) b ∙ blanked_options options o;
    }

-- a line made of its parts has the form
has_form : (words path : List ℕ) (options : List (List ℕ)) (line : List ℕ) → Parts words path options → line ≡ made words path options → mail_form line ≡ true
has_form words path options line p e =
    let g = again words path options line p (e ∙ made_front words path options) in
    let a = ap length g.path_is in
    let b = ap length g.mid ∙ length-append path (62 ∷ blanked options) in
    let n : length (path_of line) < length (inner line) = omega arith in
    let f = ap (λ (s : List ℕ). length (first_part 32 s)) g.tail_is ∙ ap length (blanked_first options) in
    and_from (ends line) (path_part line && options_part line)
    (and_from _ _ g.closed (ap (λ (s : List ℕ). same s mail_from) g.first ∙ alike_same words mail_from p.0))
    (and_from (path_part line) (options_part line)
    (and_from _ _ (lt-ltb (length (path_of line)) (length (inner line)) n) (ap path_form g.path_is ∙ text_path path p.1))
    (and_from _ _ (eq-eqb (length (first_part 32 (tail_of line))) 0 f) (ap (all option_form) g.options_are ∙ (options_text options).1 p.2)))

-- two bytes that are CRLF
two_crlf : (s : List ℕ) → crlf_first s ≡ true → length s ≤ 2 → s ≡ crlf
two_crlf [] e h = absurd (true≢false (sym e))
two_crlf (x ∷ []) e h = let f : crlf_first (x ∷ []) ≡ false = grind (arith, nat_tests) in absurd (true≢false (sym e ∙ f))
two_crlf (x ∷ (y ∷ [])) e h =
    let (a, b) = and_parts (eqb x 13) (eqb y 10) e in
    let i = eqb-true x 13 a in
    let j = eqb-true y 10 b in
    cc
two_crlf (x ∷ (y ∷ (z ∷ s))) e h = absurd (omega arith)

-- a line put together from what it was cut into
joint : (line body end words mid path tail options : List ℕ) → body ++ end ≡ line → words ++ mid ≡ body → mid ≡ path ++ (62 ∷ tail) → tail ≡ options → end ≡ crlf →
    line ≡ (words ++ (path ++ (62 ∷ options))) ++ crlf
joint line body end words mid path tail options a b c d e = cc

-- a line that has the form is made of its parts
form_parts : (line : List ℕ) → mail_form line ≡ true → (words path : List ℕ) × (options : List (List ℕ)) × Parts words path options × (line ≡ made words path options)
form_parts line e =
    let (a, b) = and_parts (ends line) (path_part line && options_part line) e in
    let (d, w) = and_parts (crlf_first (drop (length line - 2) line)) (same (take 11 (take (length line - 2) line)) mail_from) a in
    let (p, o) = and_parts (path_part line) (options_part line) b in
    let (q, r) = and_parts (ltb (length (path_of line)) (length (inner line))) (path_form (path_of line)) p in
    let (s, t) = and_parts (eqb (length (first_part 32 (tail_of line))) 0) (all option_form (options_of line)) o in
    let c = two_crlf (drop (length line - 2) line) d (rw length-drop (omega arith)) in
    let i = split_first 62 (inner line) (ltb-true (length (path_of line)) (length (inner line)) q) in
    let j = nil_from_length (first_part 32 (tail_of line)) (eqb-true (length (first_part 32 (tail_of line))) 0 s) in
    let k : tail_of line ≡ blanked (options_of line) = split_options (tail_of line) ∙ ap (λ (x : List ℕ). x ++ blanked (options_of line)) j in
    let m = take-append-drop (length line - 2) line in
    let n = take-append-drop 11 (take (length line - 2) line) in
    let whole : line ≡ (take 11 (take (length line - 2) line) ++ (path_of line ++ (62 ∷ blanked (options_of line)))) ++ crlf = joint line _ _ _ _ _ _ _ m n i k c in (
      take 11 (take (length line - 2) line),
      path_of line,
      options_of line,
      (same_alike (take 11 (take (length line - 2) line)) mail_from w, path_text (path_of line) r, (options_text (options_of line)).0 t),
      whole ∙ sym (made_front (take 11 (take (length line - 2) line)) (path_of line) (options_of line)),
    )

pub form_holds : FormHolds
form_holds line = (form_parts line, (λ h. has_form h.0 h.1 h.2 line h.3 h.4))

pub parts_hold : PartsHold
parts_hold words path options p =
    let g = again words path options (made words path options) p (made_front words path options) in
    (g.path_is, g.options_are)

-- the tests of a line that was accepted
accepted : (long form known two clear : Bool) (mail other : Mail) (a b c d e : Refusal) →
    cond long (Err a) (cond (not form) (Err b) (cond (not known) (Err c) (cond two (Err d) (cond clear (Err e) (Ok mail))))) ≡ Ok other → (form ≡ true) × (mail ≡ other)
accepted true form known two clear mail other a b c d e h = absurd (let z : ◌≡◌ {A = ℕ} 0 1 = cc in omega arith)
accepted false false known two clear mail other a b c d e h = absurd (let z : ◌≡◌ {A = ℕ} 0 1 = cc in omega arith)
accepted false true false two clear mail other a b c d e h = absurd (let z : ◌≡◌ {A = ℕ} 0 1 = cc in omega arith)
accepted false true true true clear mail other a b c d e h = absurd (let z : ◌≡◌ {A = ℕ} 0 1 = cc in omega arith)
accepted false true true false true mail other a b c d e h = absurd (let z : ◌≡◌ {A = ℕ} 0 1 = cc in omega arith)
accepted false true true false false mail other a b c d e h = (refl, cc)

-- the path stands behind the words
placed : (line words path rest : List ℕ) → line ≡ words ++ (path ++ rest) → length words ≡ 11 → take (length path) (drop 11 line) ≡ path
placed line words path rest e n = ap (λ (s : List ℕ). take (length path) (drop 11 s)) e ∙ ap (take (length path)) (drop_at words (path ++ rest) 11 n) ∙ take_at path rest (length path) refl

pub place_holds : PlaceHolds
place_holds line covered mail e =
    let (f, g) = accepted (ltb 523 (length line)) (mail_form line) (all is_known (options_of line)) (repeated (options_of line)) (some is_require_tls (options_of line) && not covered) (mail_of line) mail _ _ _ _ _ e in
    let (words, path, options, p, w) = form_parts line f in
    let n : length words ≡ 11 = sym (length-map words lowered) ∙ ap length p.0 in
    let q = (again words path options line p (w ∙ made_front words path options)).path_is in
    ap (λ (m : Mail). take (length m.path) (drop m.place line)) (sym g)
    ∙ ap (λ (s : List ℕ). take (length s) (drop 11 line)) q ∙ placed line words path _ w n ∙ sym q ∙ ap (λ (m : Mail). m.path) g

-- the option of our written form
our_options : Bool → List (List ℕ)
our_options true = codes "REQUIRETLS" ∷ []
our_options false = []

our_texts : (require_tls : Bool) → AllByRecursion OptionText (our_options require_tls)
unfolding our_options
our_texts true = (options_text (codes "REQUIRETLS" ∷ [])).0 refl
our_texts false = tt

written_made : (path : List ℕ) (require_tls : Bool) → written path require_tls ≡ made mail_from path (our_options require_tls)
unfolding our_options
written_made path true = refl
written_made path false = refl

our_known : (require_tls : Bool) → all is_known (our_options require_tls) ≡ true
unfolding our_options
our_known true = refl
our_known false = refl

our_once : (require_tls : Bool) → repeated (our_options require_tls) ≡ false
unfolding our_options
our_once true = refl
our_once false = refl

our_option : (require_tls : Bool) → some is_require_tls (our_options require_tls) ≡ require_tls
unfolding our_options
our_option true = refl
our_option false = refl

written_length : (path : List ℕ) (require_tls : Bool) → PathText path → length (written path require_tls) ≤ 523
written_length path require_tls p =
    let h = path_length path (text_path path p) in
    let l = ending_length require_tls in
    let e = length-append path (ending require_tls) in
    omega arith

-- every test passes
passes : (long form known two clear : Bool) (mail : Mail) (a b c d e : Refusal) → long ≡ false → form ≡ true → known ≡ true → two ≡ false → clear ≡ false →
    cond long (Err a) (cond (not form) (Err b) (cond (not known) (Err c) (cond two (Err d) (cond clear (Err e) (Ok mail))))) ≡ Ok mail
passes long form known two clear mail a b c d e l f k t u = rw (l, f, k, t, u)

pub read_back : ReadBack
read_back path require_tls p =
    let line = written path require_tls in
    let w = written_made path require_tls in
    let parts : Parts mail_from path (our_options require_tls) = (refl, p, our_texts require_tls) in
    let g = again mail_from path (our_options require_tls) line parts (w ∙ made_front mail_from path (our_options require_tls)) in
    let o = g.options_are in
    let r : some is_require_tls (options_of line) ≡ require_tls = ap (some is_require_tls) o ∙ our_option require_tls in
    let s : mail_of line ≡ record { path = path; place = 11; require_tls = require_tls } = λ i. record { path = g.path_is i; place = 11; require_tls = r i } in
    passes (ltb 523 (length line)) (mail_form line) (all is_known (options_of line)) (repeated (options_of line)) (some is_require_tls (options_of line) && not true) (mail_of line) _ _ _ _ _
    (le-ltb 523 (length line) (written_length path require_tls p)) (has_form mail_from path (our_options require_tls) line parts w)
    (ap (all is_known) o ∙ our_known require_tls) (ap repeated o ∙ our_once require_tls) (and_right (some is_require_tls (options_of line)) false refl)
    ∙ ap Ok s

-- our written form is what is written
pub ours_written : (line : List ℕ) → Ours line → (path : List ℕ) × (require_tls : Bool) × PathText path × (line ≡ written path require_tls)
ours_written line (path, p, inl e) = (path, false, p, e)
ours_written line (path, p, inr e) = (path, true, p, e)

pub written_again : WrittenAgain
written_again line h =
    let (path, require_tls, p, e) = ours_written line h in
    let f = ap (λ (s : List ℕ). mail_line s true) e ∙ read_back path require_tls p in
    subst (λ (r : Result Mail Refusal). MatchResult r (λ (mail : Mail). written mail.path mail.require_tls ≡ line) (λ _. ⊥)) (sym f) (sym e)

pub shown : MailLinesShown
shown = record {
  plain = refl;
  empty = refl;
  option = refl;
  others = refl;
  longest = refl;
  blanks = refl;
  ending = refl;
  behind = refl;
  path = refl;
  bare = refl;
  value = refl;
  none = refl;
  above = refl;
  other = refl;
  twice = refl;
  later = refl;
  in_clear = refl;
  twice_in_clear = refl;
  form_first = refl;
  long = refl;
  garbled = refl;
  ours = refl;
  ours_plain = refl;
  length36 = refl;
  ill_first = refl;
  short = refl;
}
