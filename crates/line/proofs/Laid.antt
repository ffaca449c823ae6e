-- Bytes laid down behind what is written, and the parts of what is written.
use Rattle.std.proofs.Common.{◌≡◌, ℕ, ◌+◌, ◌-◌, ◌≤◌, ◌<◌, Bool, true, false, cond, ltb, List, [], ◌∷◌, ◌++◌, length, get_or, take, drop, set, Some, None, Option, refl, sym, ap, ◌∙◌, arith, ltb-false}
use Rattle.std.proofs.lemmas.List.{take_more, take_more_set, append_assoc, append-nil, length-append, length-take-le, length-drop, take_at, take-take, drop-take, drop-drop, take-append-drop}
use Rattle.line.specs.declared.record.Letter.{Letter}
use Rattle.line.specs.declared.record.Letter.TheVariants.{Opened}
use Rattle.line.specs.declared.record.Trust.{Trust}
use Rattle.line.specs.Calls.{laid as lying, fitting, fitting_names, names_of, crlf}
use Rattle.line.specs.Model.{Bytes}
use Rattle.line.specs.Buffers.{laid_at}
use Rattle.line.specs.Layout.{head_of}

-- what a text laid down leaves: the bytes up to its end, and their number
pub record LaidDown (at n : ℕ) (w old out : Bytes) : Type 0 where
  pub text : take (at + n) out ≡ take at old ++ w
  pub len : length out ≡ length old

pub laid_down : (at n : ℕ) (w old out : Bytes) → out ≡ laid_at at w old → length w ≡ n → at + n ≤ length old → LaidDown at n w old out
laid_down at n w old out e l h =
    let rest = drop (at + length w) old in
    let m : length (take at old ++ w) ≡ at + n = length-append (take at old) w ∙ omega (arith, length-take-le at old (omega arith)) in
    let s : out ≡ (take at old ++ w) ++ rest = e ∙ sym (append_assoc (take at old) w rest) in
    record {
      text = ap (λ (z : Bytes). take (at + n) z) s ∙ take_at (take at old ++ w) rest (at + n) m;
      len = ap length s ∙ length-append (take at old ++ w) rest ∙ omega (arith, m, l, length-drop (at + length w) old);
    }

-- a piece's record has no ending of its own
pub without_ending : (visit : ℕ) (l : Letter) (bytes : Bytes) → head_of visit l (length bytes + 0) ++ (bytes ++ []) ≡ head_of visit l (length bytes) ++ bytes
without_ending visit l bytes =
    let z : length bytes + 0 ≡ length bytes = omega arith in
    ap (λ (k : ℕ). head_of visit l k ++ (bytes ++ [])) z ∙ ap (λ (b : Bytes). head_of visit l (length bytes) ++ b) (append-nil bytes)

-- a piece's record, and a name's, laid behind what is written
pub piece_laid : (at visit : ℕ) (l : Letter) (bytes old out : Bytes) → out ≡ laid_at at (head_of visit l (length bytes + 0) ++ (bytes ++ [])) old → at + (12 + length bytes) ≤ length old
    → LaidDown at (12 + length bytes) (head_of visit l (length bytes) ++ bytes) old out
piece_laid at visit l bytes old out e h =
    laid_down at (12 + length bytes) (head_of visit l (length bytes) ++ bytes) old out (e ∙ ap (λ (z : Bytes). laid_at at z old) (without_ending visit l bytes)) (omega arith) h

pub name_laid : (at visit : ℕ) (host old out : Bytes) → out ≡ laid_at at (head_of visit Opened (length host + 2) ++ (host ++ crlf)) old → at + (12 + (length host + 2)) ≤ length old
    → LaidDown at (12 + (length host + 2)) (head_of visit Opened (length host + 2) ++ (host ++ crlf)) old out
name_laid at visit host old out e h =
    laid_down at (12 + (length host + 2)) (head_of visit Opened (length host + 2) ++ (host ++ crlf)) old out e (omega (arith, length-append host crlf)) h

-- one byte more of a text that is laid down
pub laid_step : (at i : ℕ) (xs old src : List ℕ) → take (at + i) xs ≡ take at old ++ take i src → i < length src → at + i < length xs
    → take (at + (i + 1)) (set xs (at + i) (get_or src i 0)) ≡ take at old ++ take (i + 1) src
laid_step at i xs old src e h k =
    let a : at + (i + 1) ≡ at + i + 1 = omega arith in
    let t = take_more_set xs (at + i) (get_or src i 0) k in
    let p = take_more src i 0 h in
    let s = append_assoc (take at old) (take i src) (get_or src i 0 ∷ []) in
    cc

-- a head of 12 bytes, and a text behind it
pub laid : (at : ℕ) (x0 x1 x2 r a b : List ℕ) → r ≡ a → length a ≡ 12 → take (at + length r) x1 ≡ take at x0 ++ r
    → take (at + 12 + length b) x2 ≡ take (at + 12) x1 ++ b → take (at + (12 + length b)) x2 ≡ take at x0 ++ (a ++ b)
laid at x0 x1 x2 r a b e l t1 t2 =
    let n : at + 12 ≡ at + length r = ap (λ (k : ℕ). at + k) (sym l ∙ ap length (sym e)) in
    let m : at + (12 + length b) ≡ at + 12 + length b = omega arith in
    let s = append_assoc (take at x0) a b in
    cc

-- a further text
pub laid_more : (at : ℕ) (x0 x2 x3 a b d : List ℕ) → take (at + (12 + length b)) x2 ≡ take at x0 ++ (a ++ b)
    → take (at + 12 + length b + length d) x3 ≡ take (at + 12 + length b) x2 ++ d → take (at + (12 + (length b + length d))) x3 ≡ take at x0 ++ (a ++ (b ++ d))
laid_more at x0 x2 x3 a b d t2 t3 =
    let m : at + (12 + length b) ≡ at + 12 + length b = omega arith in
    let k : at + (12 + (length b + length d)) ≡ at + 12 + length b + length d = omega arith in
    let s = append_assoc (take at x0) (a ++ b) d in
    let u = append_assoc a b d in
    cc

-- a part of what is written, as it is lent
pub part_in : (i j : ℕ) (xs : Bytes) → i ≤ j → take (j - i) (drop i xs) ≡ drop i (take j xs)
part_in i j xs h =
    let k : i + (j - i) ≡ j = omega arith in
    sym (drop-take i (j - i) xs) ∙ ap (λ (n : ℕ). drop i (take n xs)) k

pub name_lent : (at long used : ℕ) (xs : Bytes) → at + long ≤ used → take (at + long - at) (drop at xs) ≡ take long (drop at (take used xs))
name_lent at long used xs h =
    let k : at + long - at ≡ long = omega arith in
    ap (λ (n : ℕ). take n (drop at xs)) k ∙ sym (take-take long (used - at) (drop at xs) (omega arith)) ∙ ap (take long) (part_in at used xs (omega arith))

-- a text laid at the front of a buffer's first bytes, of which it takes no more, lies at the front of the buffer
front_laid : (n : ℕ) (t old front : Bytes) → front ≡ take n old → length t ≤ n → (t ++ drop (length t) front) ++ drop n old ≡ t ++ drop (length t) old
front_laid n t old front e h =
    let k = length t in
    let m : k + (n - k) ≡ n = omega arith in
    let d = drop-take k (n - k) old in
    let b = drop-drop (n - k) k old in
    let a = take-append-drop (n - k) (drop k old) in
    append_assoc t (drop k front) (drop n old)
    ∙ ap (λ (z : Bytes). t ++ z) (ap (λ (z : Bytes). drop k z ++ drop n old) e ∙ cc)

pub fitting_laid : (o : Option Bytes) (old front : Bytes) → front ≡ take 4096 old → lying (fitting o) front ++ drop 4096 old ≡ lying (fitting o) old
fitting_laid None old front e = ap (λ (z : Bytes). z ++ drop 4096 old) e ∙ take-append-drop 4096 old
fitting_laid (Some t) old front e = go (ltb 4096 (length t)) refl
  where
    go : (b : Bool) → ltb 4096 (length t) ≡ b → lying (cond b None (Some t)) front ++ drop 4096 old ≡ lying (cond b None (Some t)) old
    go true h = ap (λ (z : Bytes). z ++ drop 4096 old) e ∙ take-append-drop 4096 old
    go false h = front_laid 4096 t old front e (ltb-false 4096 (length t) h)

pub names_laid : (o : Option (Trust × Bytes)) (old front : Bytes) → front ≡ take 4096 old → lying (names_of (fitting_names o)) front ++ drop 4096 old ≡ lying (names_of (fitting_names o)) old
names_laid None old front e = fitting_laid None old front e
names_laid (Some h) old front e = go (ltb 4096 (length h.1)) refl
  where
    go : (b : Bool) → ltb 4096 (length h.1) ≡ b → lying (names_of (cond b None (Some h))) front ++ drop 4096 old ≡ lying (names_of (cond b None (Some h))) old
    go true t = fitting_laid None old front e
    go false t = front_laid 4096 h.1 old front e (ltb-false 4096 (length h.1) t)
