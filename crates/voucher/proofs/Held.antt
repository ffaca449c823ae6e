-- The laws of vouchers.
use Rattle.std.proofs.Common.{◌≡◌, ℕ, Bool, true, false, ◌&&◌, List, [], ◌∷◌, ◌++◌, sym, refl, ap, ◌∙◌, arith}
use Rattle.std.proofs.lemmas.Bool.Decides.{nat_tests}
use Rattle.std.proofs.lemmas.Bool.{and_parts}
use Rattle.std.proofs.Math.Bool.{and-true, and-false, and-or_distrib_left}
use Rattle.std.specs.List.{list_all}
use Rattle.smtp.specs.Bytes.{same}
use Rattle.smtp.specs.Names.{host_name}
use Rattle.smtp.specs.Parts.{first_part, other_parts, parts}
use Rattle.voucher.specs.Voucher.{lower, holds}
use Rattle.voucher.specs.Direct.{direct_set}
use Rattle.voucher.specs.PolicyLines.{without_cr, last_line, ended, lines}
use Rattle.voucher.specs.Laws.{BlindToCase, HostNamesOnly, AllOrNone, DomainAlone, Union, LineEnds, PrintedPolicies, PolicyForm, in_line}
use Rattle.voucher.proofs.Lettered.{lower_same, host_lower, same_lower}
use Rattle.voucher.proofs.Lined.{last_whole, one_cr}

host_same : (a b : List ℕ) → same a b ≡ true → host_name a ≡ host_name b
host_same a b h = sym (host_lower a) ∙ ap host_name (lower_same a b h) ∙ host_lower b

pub blind : BlindToCase
blind set a b h = ap (λ (x : Bool). x && set (lower a)) (host_same a b h) ∙ ap (λ (n : List ℕ). host_name b && set n) (lower_same a b h)

pub host_names_only : HostNamesOnly
host_names_only set name h = ap (λ (x : Bool). x && set (lower name)) h

pub all_or_none : AllOrNone
all_or_none name = (and-true (host_name name), and-false (host_name name))

-- a name is the domain's only where both are host names or neither is
domain_is : (a b s : Bool) → (s ≡ true → a ≡ b) → (a ≡ true → (b && s) ≡ s) × (a ≡ false → (b && s) ≡ false)
domain_is a true true h = ((λ e. refl), (λ e. sym (h refl) ∙ e))
domain_is a true false h = ((λ e. refl), (λ e. refl))
domain_is a false true h = ((λ e. sym (h refl) ∙ e), (λ e. refl))
domain_is a false false h = ((λ e. refl), (λ e. refl))

pub domain_alone : DomainAlone
domain_alone domain name =
    let (p, q) = domain_is (host_name domain) (host_name name) (same domain name) (host_same domain name) in
    let e : holds (direct_set domain false) name ≡ (host_name name && same domain name) = ap (λ (x : Bool). host_name name && x) (same_lower domain name) in
    ((λ h. e ∙ p h), (λ h. e ∙ q h), and-false (host_name name))

pub union_held : Union
union_held first second name = and-or_distrib_left (host_name name) (first (lower name)) (second (lower name))

-- a line that LF ends, and one that CRLF ends
first_lf : (l rest : List ℕ) → list_all in_line l ≡ true → first_part 10 (l ++ (10 ∷ rest)) ≡ l
first_lf [] rest h = refl
first_lf (x ∷ l) rest h = let e = first_lf l rest in grind (arith, nat_tests)

others_lf : (l rest : List ℕ) → list_all in_line l ≡ true → other_parts 10 (l ++ (10 ∷ rest)) ≡ parts 10 rest
others_lf [] rest h = refl
others_lf (x ∷ l) rest h = let e = others_lf l rest in grind (arith, nat_tests)

first_crlf : (l rest : List ℕ) → list_all in_line l ≡ true → first_part 10 (l ++ (13 ∷ (10 ∷ rest))) ≡ l ++ (13 ∷ [])
first_crlf [] rest h = refl
first_crlf (x ∷ l) rest h = let e = first_crlf l rest in grind (arith, nat_tests)

others_crlf : (l rest : List ℕ) → list_all in_line l ≡ true → other_parts 10 (l ++ (13 ∷ (10 ∷ rest))) ≡ parts 10 rest
others_crlf [] rest h = refl
others_crlf (x ∷ l) rest h = let e = others_crlf l rest in grind (arith, nat_tests)

first_whole : (l : List ℕ) → list_all in_line l ≡ true → first_part 10 l ≡ l
first_whole [] h = refl
first_whole (x ∷ l) h = let e = first_whole l in grind (arith, nat_tests)

others_whole : (l : List ℕ) → list_all in_line l ≡ true → other_parts 10 l ≡ []
others_whole [] h = refl
others_whole (x ∷ l) h = let e = others_whole l in grind (arith, nat_tests)

no_cr : (l : List ℕ) → list_all in_line l ≡ true → without_cr l ≡ l
no_cr [] h = refl
no_cr (x ∷ []) h = grind (arith, nat_tests)
no_cr (x ∷ (y ∷ l)) h = ap (λ (t : List ℕ). x ∷ t) (no_cr (y ∷ l) (and_parts (in_line x) (list_all in_line (y ∷ l)) h).1)

pub line_ends : LineEnds
unfolding lines
line_ends line rest h = (
  ap (λ (ps : List (List ℕ)). ended (first_part 10 (line ++ (10 ∷ rest)) ∷ ps)) (others_lf line rest h)
      ∙ ap (λ (l : List ℕ). without_cr l ∷ lines rest) (first_lf line rest h)
      ∙ ap (λ (l : List ℕ). l ∷ lines rest) (no_cr line h),
  ap (λ (ps : List (List ℕ)). ended (first_part 10 (line ++ (13 ∷ (10 ∷ rest))) ∷ ps)) (others_crlf line rest h)
      ∙ ap (λ (l : List ℕ). without_cr l ∷ lines rest) (first_crlf line rest h)
      ∙ ap (λ (l : List ℕ). l ∷ lines rest) (one_cr line),
  (λ k. ap (λ (ps : List (List ℕ)). ended (first_part 10 line ∷ ps)) (others_whole line h) ∙ ap last_line (first_whole line h) ∙ last_whole line k),
  refl,
)

pub printed_policies : PrintedPolicies
unfolding lines
printed_policies = ((refl, refl), refl, refl, refl, refl, refl, refl, refl, refl, (refl, refl), refl)

pub policy_form : PolicyForm
unfolding lines
policy_form = (
  (refl, refl),
  (refl, refl),
  (refl, refl),
  (refl, refl),
  (refl, refl),
  (refl, refl),
  (refl, refl),
  (refl, refl),
  (refl, refl),
  (refl, refl),
  (refl, refl),
  (refl, refl),
  (refl, refl),
  (refl, refl),
  (refl, refl),
  (refl, refl),
  (refl, refl),
  (refl, refl),
  (refl, refl),
  (refl, refl),
)
