-- The laws of the calls, from those of MAIL lines, tags and replies.
use Rattle.std.proofs.Common.{◌≡◌, ℕ, ◌+◌, ◌-◌, ◌≤◌, Bool, true, false, cond, not, ◌&&◌, ltb, leb, List, [], ◌∷◌, ◌++◌, length, take, pos, Ok, Err, Decides, Result, sym, refl, ap, ◌∙◌, subst, arith, length-append, length-drop, length-take}
use Rattle.std.proofs.lemmas.Bool.{and_parts, ltb-true, ltb-false, leb-true}
use Rattle.std.specs.Result.{result_map_both}
use Rattle.smtp.specs.declared.refusal.Refusal.{Refusal}
use Rattle.smtp.specs.declared.refusal.Refusal.TheVariants.{MailLineTooLong, MailLineForm, UnknownOption, RepeatedOption, RequireTlsInClear, BadContent, BadAddress, ShortBuffer}
use Rattle.smtp.specs.Bytes.{all, within}
use Rattle.smtp.specs.Replies.{Line, reply_code, code_in, code_of, code_digits, front}
use Rattle.smtp.specs.Replies as replies
use Rattle.smtp.specs.RepliesHold.{Ends, Each}
use Rattle.smtp.proofs.Spelled.{replies_hold}
use Rattle.message.specs.declared.tag.Tag.{Tag}
use Rattle.message.specs.declared.tag.Tag.TheVariants.{Required, No, None}
use Rattle.message.specs.Content.{well_formed}
use Rattle.message.specs.Lines.{lines_of, header}
use Rattle.message.specs.MailLines.{Mail, mail_of, mail_line, mail_form, ends, path_part, options_part, inner, path_of, options_of, path_form, is_known, repeated, written, writing, mail_from, ending}
use Rattle.message.specs.TaggedMails as mails
use Rattle.message.specs.Tags.{fields, tls_required, tag_of, tagged, says_no}
use Rattle.message.proofs.MailLaws.{place_holds}
use Rattle.message.proofs.MailWriting.{path_length, ending_length}
use Rattle.balgwir_c.specs.declared.mail.TaggedMail.{TaggedMail}
use Rattle.balgwir_c.specs.Calls.{tagged_mail, told, status}
use Rattle.balgwir_c.specs.CallsHold.{CallsHold, PathIn, has_option, two_or_more, tag_checks, write_checks, first_failing}
use Rattle.balgwir_c.specs.Numbers.{tag_int}

abbrev told_in : Mail → Result Tag Refusal → Result TaggedMail Refusal
told_in mail r = result_map_both told (λ e. e) (result_map_both (λ tag. (mail, tag)) (λ e. e) r)

abbrev behind_line : Result Mail Refusal → List ℕ → Result TaggedMail Refusal
behind_line r section = result_map_both told (λ e. e) (mails.behind_line r section)

-- the line's checks, and behind them a number that the section gives
line_table : (long form known two clear : Bool) (mail : Mail) (section : List ℕ) (k : ℕ) → status (told_in mail (tagged mail.require_tls section)) ≡ pos k →
    status (behind_line (cond long (Err MailLineTooLong) (cond (not form) (Err MailLineForm) (cond (not known) (Err UnknownOption) (cond two (Err RepeatedOption) (cond clear (Err RequireTlsInClear) (Ok mail)))))) section)
    ≡ pos (cond long 1 (cond (not form) 2 (cond (not known) 3 (cond two 4 (cond clear 5 k)))))
line_table true form known two clear mail section k h = refl
line_table false false known two clear mail section k h = refl
line_table false true false two clear mail section k h = refl
line_table false true true true clear mail section k h = refl
line_table false true true false true mail section k h = refl
line_table false true true false false mail section k h = h

-- the section's checks
section_table : (option well : Bool) (fs : List (List ℕ)) (mail : Mail) →
    status (told_in mail (cond well (cond option (Ok Required) (tag_of fs)) (Err BadContent))) ≡ pos (cond (well && (not option && two_or_more fs)) 6 (cond (not well) 9 0))
section_table option false fs mail = refl
section_table true true fs mail = refl
section_table false true [] mail = refl
section_table false true (f ∷ []) mail = refl
section_table false true (f ∷ g ∷ fs) mail = refl

tag_by_table_holds : (line : List ℕ) (covered : Bool) (section : List ℕ) → status (tagged_mail line covered section) ≡ pos (first_failing (tag_checks line covered section))
tag_by_table_holds line covered section =
    line_table (ltb 523 (length line)) (mail_form line) (all is_known (options_of line)) (repeated (options_of line)) (has_option line && not covered) (mail_of line) section _
    (section_table (has_option line) (well_formed section) (tls_required (fields (lines_of (header section)))) (mail_of line))

write_table : (formed short : Bool) (n : ℕ) → status (cond (not formed) (Err BadAddress) (cond short (Err ShortBuffer) (Ok n))) ≡ pos (cond (not formed) 8 (cond short 10 0))
write_table false short n = refl
write_table true true n = refl
write_table true false n = refl

write_by_table_holds : (path : List ℕ) (require_tls : Bool) (room : ℕ) → status (writing path require_tls room) ≡ pos (first_failing (write_checks path room))
write_by_table_holds path require_tls room = write_table (path_form path) (ltb room 523) (length (written path require_tls))

-- what is accepted is a line that is accepted, and a section that is
both_read : (r : Result Mail Refusal) (section : List ℕ) (t : TaggedMail) → behind_line r section ≡ Ok t → (mail : Mail) × (r ≡ Ok mail) × (told_in mail (tagged mail.require_tls section) ≡ Ok t)
both_read (Ok mail) section t e = (mail, refl, e)
both_read (Err d) section t e = absurd (let z : ◌≡◌ {A = ℕ} 0 1 = cc in omega arith)

line_accepted : (long form known two clear : Bool) (m mail : Mail) →
    cond long (Err MailLineTooLong) (cond (not form) (Err MailLineForm) (cond (not known) (Err UnknownOption) (cond two (Err RepeatedOption) (cond clear (Err RequireTlsInClear) (Ok m))))) ≡ Ok mail →
    (form ≡ true) × (m ≡ mail)
line_accepted true form known two clear m mail e = absurd (let z : ◌≡◌ {A = ℕ} 0 1 = cc in omega arith)
line_accepted false false known two clear m mail e = absurd (let z : ◌≡◌ {A = ℕ} 0 1 = cc in omega arith)
line_accepted false true false two clear m mail e = absurd (let z : ◌≡◌ {A = ℕ} 0 1 = cc in omega arith)
line_accepted false true true true clear m mail e = absurd (let z : ◌≡◌ {A = ℕ} 0 1 = cc in omega arith)
line_accepted false true true false true m mail e = absurd (let z : ◌≡◌ {A = ℕ} 0 1 = cc in omega arith)
line_accepted false true true false false m mail e = (refl, cc)

mail_is : (line : List ℕ) (covered : Bool) (mail : Mail) → mail_line line covered ≡ Ok mail → (mail_form line ≡ true) × (mail_of line ≡ mail)
mail_is line covered mail e =
    line_accepted (ltb 523 (length line)) (mail_form line) (all is_known (options_of line)) (repeated (options_of line)) (has_option line && not covered) (mail_of line) mail e

-- the place and the length that are told
told_is : (mail : Mail) (r : Result Tag Refusal) (t : TaggedMail) → told_in mail r ≡ Ok t → (tag : Tag) × (r ≡ Ok tag) × (told (mail, tag) ≡ t)
told_is mail (Ok tag) t e = (tag, refl, cc)
told_is mail (Err d) t e = absurd (let z : ◌≡◌ {A = ℕ} 0 1 = cc in omega arith)

-- a path that is told stands in the line, behind its first 11 bytes
inside : (line : List ℕ) → mail_form line ≡ true → (11 + length (path_of line) ≤ length line) × (path_form (path_of line) ≡ true)
inside line e =
    let (a, b) = and_parts (ends line) (path_part line && options_part line) e in
    let (p, o) = and_parts (path_part line) (options_part line) b in
    let (q, r) = and_parts (ltb (length (path_of line)) (length (inner line))) (path_form (path_of line)) p in
    let k = ltb-true (length (path_of line)) (length (inner line)) q in
    let m = length-drop 11 (take (length line - 2) line) in
    let n = length-take (length line - 2) line in
    (omega arith, r)

placed : (line : List ℕ) (covered : Bool) (mail : Mail) → mail_line line covered ≡ Ok mail → PathIn line mail.place (length mail.path)
placed line covered mail e =
    let (form, same) = mail_is line covered mail e in
    let (a, b) = inside line form in
    let p = ap (λ (m : Mail). m.place) same in
    let q = ap (λ (m : Mail). m.path) same in
    let n = ap length q in
    record { within = omega arith; is = place_holds line covered mail e ∙ sym q; form = b }

path_in_holds : (line : List ℕ) (covered : Bool) (section : List ℕ) (t : TaggedMail) → tagged_mail line covered section ≡ Ok t → PathIn line t.path_place t.path_len
path_in_holds line covered section t e =
    let (mail, f, g) = both_read (mail_line line covered) section t e in
    let (tag, h, k) = told_is mail (tagged mail.require_tls section) t g in
    let P : TaggedMail → Type 0 = λ t. PathIn line t.path_place t.path_len in
    subst P k (placed line covered mail f)

-- a tag that is not Required has another number
not_required : (says : Bool) (tag : Tag) → cond says No None ≡ tag → Decides false (tag_int tag ≡ pos 1)
not_required true tag e = ((λ n. absurd (let z : ◌≡◌ {A = ℕ} 0 1 = cc in omega arith)), (λ n. absurd (let k = ap tag_int e ∙ n in let z : ◌≡◌ {A = ℕ} 0 1 = cc in omega arith)))
not_required false tag e = ((λ n. absurd (let z : ◌≡◌ {A = ℕ} 0 1 = cc in omega arith)), (λ n. absurd (let k = ap tag_int e ∙ n in let z : ◌≡◌ {A = ℕ} 0 1 = cc in omega arith)))

-- the tag is Required exactly with the option
option_tag : (option well : Bool) (fs : List (List ℕ)) (tag : Tag) → cond well (cond option (Ok Required) (tag_of fs)) (Err BadContent) ≡ Ok tag → Decides option (tag_int tag ≡ pos 1)
option_tag option false fs tag e = absurd (let z : ◌≡◌ {A = ℕ} 0 1 = cc in omega arith)
option_tag true true fs tag e = let h : Required ≡ tag = cc in ((λ _. ap tag_int (sym h)), (λ _. refl))
option_tag false true [] tag e = not_required false tag cc
option_tag false true (f ∷ []) tag e = not_required (says_no f) tag cc
option_tag false true (f ∷ g ∷ fs) tag e = absurd (let z : ◌≡◌ {A = ℕ} 0 1 = cc in omega arith)

required : (line : List ℕ) (covered : Bool) (section : List ℕ) (t : TaggedMail) → tagged_mail line covered section ≡ Ok t → Decides (has_option line) (t.tag ≡ pos 1)
required line covered section t e =
    let (mail, f, g) = both_read (mail_line line covered) section t e in
    let (form, same) = mail_is line covered mail f in
    let (tag, h, k) = told_is mail (tagged mail.require_tls section) t g in
    let o = ap (λ (m : Mail). m.require_tls) same in
    let P : Bool → Type 0 = λ b. Decides b (t.tag ≡ pos 1) in
    let Q : TaggedMail → Type 0 = λ t. Decides mail.require_tls (t.tag ≡ pos 1) in
    subst P (sym o) (subst Q k (option_tag mail.require_tls (well_formed section) (tls_required (fields (lines_of (header section)))) tag h))

write_accepted : (formed short : Bool) (m n : ℕ) → cond (not formed) (Err BadAddress) (cond short (Err ShortBuffer) (Ok m)) ≡ Ok n → (formed ≡ true) × (short ≡ false) × (m ≡ n)
write_accepted false short m n e = absurd (let z : ◌≡◌ {A = ℕ} 0 1 = cc in omega arith)
write_accepted true true m n e = absurd (let z : ◌≡◌ {A = ℕ} 0 1 = cc in omega arith)
write_accepted true false m n e = (refl, refl, cc)

line_in_holds : (path : List ℕ) (require_tls : Bool) (room n : ℕ) → writing path require_tls room ≡ Ok n → (n ≤ 523) × (523 ≤ room)
line_in_holds path require_tls room n e =
    let (a, b, k) = write_accepted (path_form path) (ltb room 523) (length (written path require_tls)) n e in
    let p = path_length path a in
    let q = ending_length require_tls in
    let l = length-append mail_from (path ++ ending require_tls) in
    let m = length-append path (ending require_tls) in
    let r = ltb-false room 523 b in
    (omega arith, r)

-- three digits, the first of them 2 to 5 and the second at most 5
code_range : (a b c : ℕ) → code_digits a b c ≡ true → (200 ≤ code_of a b c) × (code_of a b c ≤ 559)
code_range a b c e =
    let (p, q) = and_parts (within 50 a 53) (within 48 b 53 && within 48 c 57) e in
    let (r, s) = and_parts (within 48 b 53) (within 48 c 57) q in
    let (a0, a1) = and_parts (leb 50 a) (leb a 53) p in
    let (b0, b1) = and_parts (leb 48 b) (leb b 53) r in
    let (c0, c1) = and_parts (leb 48 c) (leb c 57) s in
    let x0 = leb-true 50 a a0 in
    let x1 = leb-true a 53 a1 in
    let y0 = leb-true 48 b b0 in
    let y1 = leb-true b 53 b1 in
    let z0 = leb-true 48 c c0 in
    let z1 = leb-true c 57 c1 in
    (omega arith, omega arith)

first_code : (a b c : ℕ) (ls : List Line) → Ends ls → Each a b c ls → code_in ls ≡ code_of a b c
first_code a b c [] e f = absurd e
first_code a b c (l ∷ []) e f = f.0
first_code a b c (l ∷ m ∷ ls) e f = f.0

code_in_holds : (reply : List ℕ) → replies.well_formed reply ≡ true → (200 ≤ reply_code reply) × (reply_code reply ≤ 559)
code_in_holds reply e =
    let (a, b, c, d, f, g, h) = (replies_hold.reply_is_lines reply).0 e in
    let k = first_code a b c (front reply) f g in
    let (x, y) = code_range a b c d in
    (omega arith, omega arith)

pub calls_hold : CallsHold
calls_hold = record { tag_by_table = tag_by_table_holds; write_by_table = write_by_table_holds; path_in = path_in_holds; required = required; line_in = line_in_holds; code_in = code_in_holds }
