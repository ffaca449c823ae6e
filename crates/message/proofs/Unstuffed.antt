-- Well-formed content as lines: how many may begin with a dot, and that unstuffing gives them back.
use Rattle.std.proofs.Common.{◌≡◌, ℕ, ◌*◌, ◌≤◌, Bool, true, false, cond, eqb, List, [], ◌∷◌, ◌++◌, length, sym, refl, ap, ◌∙◌, arith, length-append}
use Rattle.std.proofs.lemmas.List.{append_assoc}
use Rattle.std.proofs.lemmas.Bool.Decides.{nat_tests}
use Rattle.smtp.specs.Bytes.{same}
use Rattle.message.specs.Lines.{lines_of, joined}
use Rattle.message.specs.Content.{plain, well_formed}
use Rattle.message.specs.ContentHold.{AllPlain, AllLines, ended}
use Rattle.message.specs.Stuffing.{dot_first, stuffed_lines, dot_starts, dot_line, stuffed, stuffed_len, without_dot, unstuffed_lines, unstuffed}
use Rattle.message.specs.StuffingHold.{StuffingHolds}
use Rattle.message.proofs.FormedLines.{in_lines}
use Rattle.message.proofs.Lined.{joined_lines}
use Rattle.message.proofs.Stuffed.{stuffed_length}

-- a line with its CRLF
abbrev crlf : List ℕ → List ℕ
crlf l = l ++ 13 ∷ 10 ∷ []

abbrev crlfs : List (List ℕ) → List (List ℕ)
crlfs [] = []
crlfs (l ∷ ls) = crlf l ∷ crlfs ls

-- bytes of lines, which may be of any length
abbrev Plains : List (List ℕ) → Type 0
Plains [] = Unit {0}
Plains (l ∷ ls) = AllPlain l × Plains ls

plains : (ls : List (List ℕ)) → AllLines ls → Plains ls
plains [] a = tt
plains (l ∷ ls) a = (a.1, plains ls a.2)

plain_no_lf : (x : ℕ) → plain x ≡ true → eqb x 10 ≡ false
plain_no_lf x e = grind (arith, nat_tests)

-- such a line at the front is the first
line_front : (l s : List ℕ) → AllPlain l → lines_of (l ++ 13 ∷ 10 ∷ s) ≡ crlf l ∷ lines_of s
line_front [] s p = refl
line_front (x ∷ l) s p =
    let e = line_front l s p.1 in
    let f = plain_no_lf x p.0 in
    simp (f, e)

lines_ended : (ls : List (List ℕ)) → Plains ls → lines_of (ended ls) ≡ crlfs ls
lines_ended [] p = refl
lines_ended (l ∷ ls) p = line_front l (ended ls) p.0 ∙ ap (λ (ms : List (List ℕ)). crlf l ∷ ms) (lines_ended ls p.1)

-- a line that begins with a dot has three bytes or more
dots_few : (ls : List (List ℕ)) → 3 * dot_starts (crlfs ls) ≤ length (ended ls)
dots_few [] = omega arith
dots_few ([] ∷ ls) = let e = dots_few ls in omega arith
dots_few ((x ∷ l) ∷ ls) =
    let e = dots_few ls in
    let f = length-append l (13 ∷ 10 ∷ ended ls) in
    grind (arith, nat_tests)

-- a line with one more dot in front, if it begins with one
abbrev doubled : List ℕ → List ℕ
doubled l = cond (dot_first l) (46 ∷ l) l

abbrev doubles : List (List ℕ) → List (List ℕ)
doubles [] = []
doubles (l ∷ ls) = doubled l ∷ doubles ls

doubled_crlf : (l : List ℕ) → cond (dot_first (crlf l)) (46 ∷ crlf l) (crlf l) ≡ crlf (doubled l)
doubled_crlf [] = refl
doubled_crlf (x ∷ l) = grind (arith, nat_tests)

dotted_crlfs : (ls : List (List ℕ)) → stuffed_lines (crlfs ls) ≡ crlfs (doubles ls)
dotted_crlfs [] = refl
dotted_crlfs (l ∷ ls) = let e = dotted_crlfs ls in let f = doubled_crlf l in cc

plain_doubled : (b : Bool) (l : List ℕ) → AllPlain l → AllPlain (cond b (46 ∷ l) l)
plain_doubled true l p = (refl, p)
plain_doubled false l p = p

plain_doubles : (ls : List (List ℕ)) → Plains ls → Plains (doubles ls)
plain_doubles [] p = tt
plain_doubles (l ∷ ls) p = (plain_doubled (dot_first l) l p.0, plain_doubles ls p.1)

joined_front : (l s t : List ℕ) → (crlf l ++ s) ++ t ≡ l ++ 13 ∷ 10 ∷ (s ++ t)
joined_front l s t = simp append_assoc

lines_joined : (ls : List (List ℕ)) (t : List ℕ) → Plains ls → lines_of (joined (crlfs ls) ++ t) ≡ crlfs ls ++ lines_of t
lines_joined [] t p = refl
lines_joined (l ∷ ls) t p =
    ap lines_of (joined_front l (joined (crlfs ls)) t)
    ∙ (line_front l (joined (crlfs ls) ++ t) p.0 ∙ ap (λ (ms : List (List ℕ)). crlf l ∷ ms) (lines_joined ls t p.1))

-- a doubled line is not the dot line, and without its first dot it is the line
undoubled : (l : List ℕ) → (same (crlf (doubled l)) dot_line ≡ false) × (without_dot (crlf (doubled l)) ≡ crlf l)
undoubled [] = (refl, refl)
undoubled (x ∷ l) = (grind (arith, nat_tests), grind (arith, nat_tests))

undotted_crlfs : (ls : List (List ℕ)) → unstuffed_lines (crlfs (doubles ls) ++ dot_line ∷ []) ≡ crlfs ls
undotted_crlfs [] = refl
undotted_crlfs (l ∷ ls) = let (e, f) = undoubled l in simp (e, f, undotted_crlfs ls)

lines_back : (ls : List (List ℕ)) → Plains ls → unstuffed_lines (lines_of (joined (stuffed_lines (crlfs ls)) ++ dot_line)) ≡ crlfs ls
lines_back ls p =
    ap (λ (ms : List (List ℕ)). unstuffed_lines (lines_of (joined ms ++ dot_line))) (dotted_crlfs ls)
    ∙ (ap unstuffed_lines (lines_joined (doubles ls) dot_line (plain_doubles ls p)) ∙ undotted_crlfs ls)

-- the lines of well-formed content
formed : (s : List ℕ) → well_formed s ≡ true → (length s ≤ 32768) × ((ls : List (List ℕ)) × Plains ls × (s ≡ ended ls) × (lines_of s ≡ crlfs ls))
formed s w =
    let (n, i) = in_lines s w in
    let (ls, a, e) = i in
    let p = plains ls a in
    (n, (ls, p, e, ap lines_of e ∙ lines_ended ls p))

most : (s : List ℕ) → well_formed s ≡ true → stuffed_len s ≤ 43693
most s w =
    let (n, i) = formed s w in
    let (ls, p, e, f) = i in
    let a = dots_few ls in
    let b = ap length e in
    let d = ap dot_starts f in
    omega arith

back : (s : List ℕ) → well_formed s ≡ true → unstuffed (stuffed s) ≡ s
back s w =
    let (n, i) = formed s w in
    let (ls, p, e, f) = i in
    ap (λ (ms : List (List ℕ)). joined (unstuffed_lines (lines_of (joined (stuffed_lines ms) ++ dot_line)))) f
    ∙ (ap joined (lines_back ls p ∙ sym f) ∙ joined_lines s)

pub stuffing_holds : StuffingHolds
stuffing_holds = record { length_holds = stuffed_length; most = most; back = back; nothing = refl; some = refl }
