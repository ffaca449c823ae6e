-- What holds of every voucher, and the definitions at examples: the policies that RFC 8461 prints, and what their form turns down.
use Rattle.std.specs.Prelude.{◌≡◌, ℕ, ◌<◌, Bool, true, false, not, ◌||◌, List, [], ◌∷◌, ◌++◌, length, Some, None, codes, Option, ◌==◌}
use Prim.Native.String.{String}
use Rattle.std.specs.List.{list_all}
use Rattle.smtp.specs.Bytes.{same}
use Rattle.smtp.specs.Names.{host_name}
use Rattle.voucher.specs.declared.policy.Mode.{Mode}
use Rattle.voucher.specs.declared.policy.Mode.TheVariants.{Enforce, Testing, None as NoPolicy}
use Rattle.voucher.specs.Voucher.{holds}
use Rattle.voucher.specs.SignedList.{signed_set}
use Rattle.voucher.specs.Direct.{direct_set}
use Rattle.voucher.specs.Either.{union}
use Rattle.voucher.specs.PolicyLines.{lines}
use Rattle.voucher.specs.Policy.{policy_mode, policy_set}

-- no set tells two names apart that differ in the case of letters only
abbrev pub BlindToCase : Type 0
BlindToCase = (set : List ℕ → Bool) (a b : List ℕ) → same a b ≡ true → holds set a ≡ holds set b

-- what is no host name is in no set
abbrev pub HostNamesOnly : Type 0
HostNamesOnly = (set : List ℕ → Bool) (name : List ℕ) → host_name name ≡ false → holds set name ≡ false

-- a signed list holds each host name, one that is not signed holds none
abbrev pub AllOrNone : Type 0
AllOrNone = (name : List ℕ) → (holds (signed_set true) name ≡ host_name name) × (holds (signed_set false) name ≡ false)

-- a domain without MX record holds itself and no other name; with one it holds none, and neither does one that is no host name
abbrev pub DomainAlone : Type 0
DomainAlone =
    (domain name : List ℕ) →
    (host_name domain ≡ true → holds (direct_set domain false) name ≡ same domain name)
    × (host_name domain ≡ false → holds (direct_set domain false) name ≡ false)
    × (holds (direct_set domain true) name ≡ false)

-- either of two holds what one of them holds
abbrev pub Union : Type 0
Union = (first second : List ℕ → Bool) (name : List ℕ) → holds (union first second) name ≡ (holds first name || holds second name)

-- neither CR nor LF
abbrev pub in_line : ℕ → Bool
in_line x = not (x == 13 || x == 10)

-- LF, CRLF and the text's end each end a line; behind the last line end there is none
abbrev pub LineEnds : Type 0
LineEnds =
    (line rest : List ℕ) → list_all in_line line ≡ true →
    (lines (line ++ (10 ∷ rest)) ≡ line ∷ lines rest)
    × (lines (line ++ (13 ∷ (10 ∷ rest))) ≡ line ∷ lines rest)
    × (0 < length line → lines line ≡ line ∷ [])
    × (lines [] ≡ [])

-- a text of lines, each with a line end behind it
abbrev pub written : List ℕ → List String → List ℕ
written end [] = []
written end (l ∷ ls) = codes l ++ (end ++ written end ls)

-- a text reads as a policy of some mode, or as none, by either line end
abbrev pub Reads : List String → Option Mode → Type 0
Reads text mode = (policy_mode (written (10 ∷ []) text) ≡ mode) × (policy_mode (written (13 ∷ (10 ∷ [])) text) ≡ mode)

-- the example of section 3.2
abbrev pub example : List String
example = "version: STSv1" ∷ ("mode: enforce" ∷ ("mx: mail.example.com" ∷ ("mx: *.example.net" ∷ ("mx: backupmx.example.com" ∷ ("max_age: 604800" ∷ [])))))

-- the example of appendix A
abbrev pub example_a : List String
example_a = "version: STSv1" ∷ ("mode: testing" ∷ ("mx: mx1.example.com" ∷ ("mx: mx2.example.com" ∷ ("mx: mx.backup-example.com" ∷ ("max_age: 1296000" ∷ [])))))

-- a name that a policy's text holds in a mode, or does not
abbrev pub Vouches : Mode → List String → String → Bool → Type 0
Vouches mode text name answer = holds (policy_set mode (written (10 ∷ []) text)) (codes name) ≡ answer

abbrev pub PrintedPolicies : Type 0
PrintedPolicies =
    Reads example (Some Enforce)
    × Vouches Enforce example "mail.example.com" true
    × Vouches Enforce example "Mail.EXAMPLE.com" true
    × Vouches Enforce example "backupmx.example.com" true
    × Vouches Enforce example "mx1.example.net" true
    × Vouches Enforce example "example.net" false
    × Vouches Enforce example "a.mx1.example.net" false
    × Vouches Enforce example "example.com" false
    × Vouches Enforce example "*.example.net" false
    × Reads example_a (Some Testing)
    × Vouches Testing example_a "mx1.example.com" false

-- the form, line by line
abbrev pub PolicyForm : Type 0
PolicyForm =
    Reads [] None
    × Reads ("version: STSv1" ∷ ("mode: none" ∷ ("max_age: 0" ∷ []))) (Some NoPolicy)
    × Reads ("version:STSv1" ∷ ("max_age:\t31557600 " ∷ ("mode: none\t" ∷ []))) (Some NoPolicy)
    × Reads ("version: STSv1" ∷ ("mode: none" ∷ ("max_age: 31557601" ∷ []))) None
    × Reads ("version: STSv1" ∷ ("mode: none" ∷ ("max_age: 0000000001" ∷ []))) (Some NoPolicy)
    × Reads ("version: STSv1" ∷ ("mode: none" ∷ ("max_age: 00000000001" ∷ []))) None
    × Reads ("version: STSv1" ∷ ("mode: enforce" ∷ ("max_age: 1" ∷ []))) None
    × Reads ("version: STSv1" ∷ ("mode: testing" ∷ ("max_age: 1" ∷ []))) None
    × Reads ("mode: none" ∷ ("max_age: 1" ∷ [])) None
    × Reads ("version: STSv1" ∷ ("max_age: 1" ∷ [])) None
    × Reads ("version: STSv1" ∷ ("mode: none" ∷ [])) None
    × Reads ("Version: STSv1" ∷ ("mode: none" ∷ ("max_age: 1" ∷ []))) None
    × Reads ("version: stsv1" ∷ ("mode: none" ∷ ("max_age: 1" ∷ []))) None
    × Reads ("version: STSv1" ∷ ("mode: None" ∷ ("max_age: 1" ∷ []))) None
    × Reads ("version: STSv1" ∷ ("" ∷ ("mode: none" ∷ ("max_age: 1" ∷ [])))) None
    × Reads ("version: STSv1" ∷ ("mode : none" ∷ ("max_age: 1" ∷ []))) None
    × Reads ("version: STSv1" ∷ ("mode: none" ∷ ("max_age: 1" ∷ ("x-1.a_b: any thing" ∷ [])))) (Some NoPolicy)
    × Reads ("version: STSv1" ∷ ("mode: none" ∷ ("max_age: 1" ∷ ("_x: any thing" ∷ [])))) None
    × Reads ("version: STSv1" ∷ ("mode: none" ∷ ("max_age: 1" ∷ ("mode: enforce" ∷ [])))) (Some NoPolicy)
    × Reads ("version: STSv1" ∷ ("mode: none" ∷ ("max_age: 1" ∷ ("mx: *.*.example.net" ∷ [])))) None

pub record VouchersHold : Type 0 where
  pub blind : BlindToCase
  pub host_names_only : HostNamesOnly
  pub all_or_none : AllOrNone
  pub domain_alone : DomainAlone
  pub union : Union
  pub line_ends : LineEnds
  pub printed_policies : PrintedPolicies
  pub policy_form : PolicyForm
