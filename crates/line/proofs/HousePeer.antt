-- A house host as the other side of a line: its name, and what it answers to the last of some pieces, by their records.
use Rattle.std.proofs.Common.{◌≡◌, ℕ, Bool, true, false, cond, Option, ◌++◌, is_some, Some, None, List, [], ◌∷◌, map, length, refl, sym, ap, ◌∙◌, inl, inr}
use Rattle.std.proofs.lemmas.Bool.{cases_eq, cases_Bool, true≢false, eqb-true, eq-eqb}
use Rattle.std.specs.Option.{option_map}
use Rattle.smtp.specs.Bytes.{same}
use Rattle.smtp.proofs.Alike.{same_len}
use Rattle.std.specs.List.{fold}
use Rattle.line.specs.declared.house_answer.Answer.{Answer}
use Rattle.line.specs.declared.house_answer.Answer.TheVariants.{Greeting, Extensions, Ready, Done, Recipient, GoAhead, Unknown}
use Rattle.line.specs.Model.{Bytes, Record, Piece}
use Rattle.line.specs.Peers.{kept}
use Rattle.line.specs.HouseHost.{Host, answer_next, answer_after, last_answer, answer_in, note_of, noted_answer}
use Rattle.line.specs.Pieces.{piece_of}
use Rattle.line.proofs.HouseRule.{answer_more}

-- a name that is the host's is as long
pub same_length : (a b : Bytes) → same a b ≡ true → length a ≡ length b
same_length a b e = elim (cases_eq (length a) (length b)) [ inl q ↦ q | inr n ↦ absurd (true≢false (sym e ∙ same_len a b n)) ]

-- so is a name that something is answered to
pub same_length_answered : (a b : Bytes) (x : Answer) {y : Answer} → cond (same a b) (Some x) None ≡ Some y → length a ≡ length b
same_length_answered a b x e = elim (cases_Bool (same a b)) [ inl t ↦ same_length a b t | inr n ↦ absurd (true≢false (sym (ap is_some (simp n at e)))) ]

-- the pieces' answers, one after the other, by their records
pub fold_answers : (h : Host) (a : Answer) (rs : List Record) → fold (λ a r. answer_next h a (piece_of r)) a rs ≡ answer_after h a (map piece_of rs)
fold_answers h a [] = refl
fold_answers h a (r ∷ rs) = fold_answers h (answer_next h a (piece_of r)) rs

-- an answer comes back from the number that a line keeps for it
pub answer_back : (a : Option Answer) → noted_answer (note_of a) ≡ a
answer_back (Some Greeting) = refl
answer_back (Some (Extensions false)) = refl
answer_back (Some (Extensions true)) = refl
answer_back (Some Ready) = refl
answer_back (Some Done) = refl
answer_back (Some Recipient) = refl
answer_back (Some GoAhead) = refl
answer_back (Some Unknown) = refl
answer_back None = refl

-- one piece more
pub answer_in_more : (h : Host) (name : Bytes) (ps : List Piece) (p : Piece)
    → answer_in h name (ps ++ (p ∷ [])) ≡ option_map (λ (a : Answer). answer_next h a p) (answer_in h name ps)
answer_in_more h name ps p = go (same name h.name)
  where
    go : (b : Bool) → cond b (Some (last_answer h (ps ++ (p ∷ [])))) None ≡ option_map (λ (a : Answer). answer_next h a p) (cond b (Some (last_answer h ps)) None)
    go true = ap (λ (a : Answer). Some a) (answer_more h Greeting ps p)
    go false = refl

pub note_more : (h : Host) (name : Bytes) (ps : List Piece) (p : Piece) (note : Option ℕ) (k n : ℕ) → note ≡ Some k
    → n ≡ note_of (option_map (λ (a : Answer). answer_next h a p) (noted_answer k)) → kept (note_of (answer_in h name ps)) note ≡ true
    → kept (note_of (answer_in h name (ps ++ (p ∷ [])))) (Some n) ≡ true
note_more h name ps p note k n e m q =
    let r : k ≡ note_of (answer_in h name ps) = eqb-true k (note_of (answer_in h name ps)) (ap (kept (note_of (answer_in h name ps))) (sym e) ∙ q) in
    let a : noted_answer k ≡ answer_in h name ps = ap noted_answer r ∙ answer_back (answer_in h name ps) in
    let s : n ≡ note_of (answer_in h name (ps ++ (p ∷ []))) =
    m ∙ ap (λ (o : Option Answer). note_of (option_map (λ (x : Answer). answer_next h x p) o)) a ∙ ap note_of (sym (answer_in_more h name ps p)) in
    eq-eqb n (note_of (answer_in h name (ps ++ (p ∷ [])))) s
