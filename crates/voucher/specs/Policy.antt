-- MTA-STS policies (RFC 8461 section 3.2): which texts are policies, and the mode and the names of each.
use Rattle.std.specs.Prelude.{ℕ, Bool, true, false, cond, not, ◌&&◌, ◌||◌, List, [], ◌∷◌, length, is_some, Some, None, Ok, Err, codes, option_and_then, Option, Result, ◌==◌, nat_le}
use Rattle.std.specs.Str.{bytes_eq}
use Rattle.std.specs.List.{list_all, list_any}
use Rattle.std.specs.Option.{option_map_or}
use Rattle.std.specs.Str.Parse.{digits_value}
use Rattle.smtp.specs.declared.refusal.Refusal.{Refusal}
use Rattle.smtp.specs.declared.refusal.Refusal.TheVariants.{BadPolicy}
use Rattle.smtp.specs.Bytes.{within, digit}
use Rattle.smtp.specs.Names.{host_name, covers_name}
use Rattle.voucher.specs.declared.policy.Mode.{Mode}
use Rattle.voucher.specs.declared.policy.Mode.TheVariants.{Enforce, Testing, None as NoPolicy}
use Rattle.voucher.specs.PolicyLines.{lines, key, value, is_field}

-- the value of the first line with a key
abbrev pub first_of : List ℕ → List (List ℕ) → Option (List ℕ)
first_of k [] = None
first_of k (l ∷ ls) = cond (bytes_eq (key l) k) (Some (value l)) (first_of k ls)

-- a value that is there, and passes a test
abbrev pub given : (List ℕ → Bool) → Option (List ℕ) → Bool
given test v = option_map_or test v false

-- a lifetime in seconds: 1 to 10 digits, leading zeros among them, of at most 31557600
abbrev pub is_age : List ℕ → Bool
is_age v = within 1 (length v) 10 && (list_all digit v && nat_le (digits_value 10 v) 31557600)

-- a pattern that an `mx` may have: a host name, or `*.` and a host name
abbrev pub is_starred : List ℕ → Bool
is_starred [] = false
is_starred (x ∷ []) = false
is_starred (x ∷ (y ∷ rest)) = x == 42 && (y == 46 && host_name rest)

abbrev pub is_pattern : List ℕ → Bool
is_pattern v = host_name v || is_starred v

-- a mode's name, as a policy text writes it
abbrev pub mode_name : Mode → List ℕ
mode_name Enforce = codes "enforce"
mode_name Testing = codes "testing"
mode_name NoPolicy = codes "none"

abbrev pub mode_named : List ℕ → Option Mode
mode_named v = cond (bytes_eq v (codes "enforce")) (Some Enforce) (cond (bytes_eq v (codes "testing")) (Some Testing) (cond (bytes_eq v (codes "none")) (Some NoPolicy) None))

-- a line of the form: key, colon and value, where the value of an `mx` is a pattern
abbrev pub well_formed_line : List ℕ → Bool
well_formed_line l = is_field l && (not (bytes_eq (key l) (codes "mx")) || is_pattern (value l))

-- in mode none a policy needs no `mx`, in any other one or more
abbrev pub needs_mx : Mode → Bool
needs_mx Enforce = true
needs_mx Testing = true
needs_mx NoPolicy = false

abbrev pub with_mx : Bool → Option Mode → Option Mode
with_mx mx None = None
with_mx mx (Some m) = cond (mx || not (needs_mx m)) (Some m) None

-- the mode of a policy's lines: each is well formed, `version` is STSv1, there is a `max_age` and a `mode`, and an `mx` where the mode needs one;
-- none where they are no policy
abbrev pub mode_of : List (List ℕ) → Option Mode
mode_of ls =
    cond
    (list_all well_formed_line ls && (given (λ v. bytes_eq v (codes "STSv1")) (first_of (codes "version") ls) && given is_age (first_of (codes "max_age") ls)))
    (with_mx (is_some (first_of (codes "mx") ls)) (option_and_then mode_named (first_of (codes "mode") ls)))
    None

-- a policy text has at most 8,192 bytes
abbrev pub policy_mode : List ℕ → Option Mode
policy_mode text = cond (nat_le (length text) 8192) (mode_of (lines text)) None

-- what reading a text gives: the policy of that text with its mode, or the refusal of a text that is no policy
abbrev pub read_as : List ℕ → Option Mode → Result (List ℕ × Mode) Refusal
read_as text None = Err BadPolicy
read_as text (Some m) = Ok (text, m)

unfoldable pub read_policy : List ℕ → Result (List ℕ × Mode) Refusal
read_policy text = read_as text (policy_mode text)

-- a line is an `mx` whose pattern covers a name
abbrev pub mx_covers : List ℕ → List ℕ → Bool
mx_covers name l = bytes_eq (key l) (codes "mx") && covers_name (value l) name

-- the names that a policy vouches for: in mode enforce those that an `mx` covers, in any other none
abbrev pub policy_set : Mode → List ℕ → List ℕ → Bool
policy_set Enforce text name = list_any (mx_covers name) (lines text)
policy_set Testing text name = false
policy_set NoPolicy text name = false
