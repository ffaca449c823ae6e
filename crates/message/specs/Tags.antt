-- The tag of a message (RFC 8689): by the REQUIRETLS option, or by the TLS-Required field of its header (RFC 5322 section 2.2).
use Rattle.std.specs.Prelude.{ℕ, Bool, false, cond, ◌||◌, List, [], ◌∷◌, ◌++◌, take, drop, Ok, Err, codes, Result, ◌==◌}
use Rattle.smtp.specs.declared.refusal.Refusal.{Refusal}
use Rattle.smtp.specs.declared.refusal.Refusal.TheVariants.{BadContent, RepeatedTlsRequired}
use Rattle.smtp.specs.Bytes.{same}
use Rattle.message.specs.declared.tag.Tag.{Tag}
use Rattle.message.specs.declared.tag.Tag.TheVariants.{Required, No, None}
use Rattle.message.specs.Content.{well_formed}
use Rattle.message.specs.Lines.{lines_of, header}

-- a folded line begins with a blank or a tab, and belongs to the field before it
abbrev pub folded : List ℕ → Bool
folded [] = false
folded (x ∷ l) = x == 32 || x == 9

-- the fields that lines make: what the field has so far, and the lines behind that
abbrev pub fields_from : List ℕ → List (List ℕ) → List (List ℕ)
fields_from f [] = f ∷ []
fields_from f (l ∷ ls) = cond (folded l) (fields_from (f ++ l) ls) (f ∷ fields_from l ls)

-- a field is a line and the folded lines behind it; folded lines before any other make one that has no name
abbrev pub fields : List (List ℕ) → List (List ℕ)
fields [] = []
fields (l ∷ ls) = fields_from l ls

-- how a tag is printed
abbrev pub tag_name : Tag → List ℕ
tag_name Required = codes "required"
tag_name No = codes "no"
tag_name None = codes "none"

-- a field that begins with its name and a colon, in any letter case
abbrev pub is_tls_required : List ℕ → Bool
is_tls_required f = same (take 13 f) (codes "TLS-Required:")

-- those fields
abbrev pub tls_required : List (List ℕ) → List (List ℕ)
tls_required [] = []
tls_required (f ∷ fs) = cond (is_tls_required f) (f ∷ tls_required fs) (tls_required fs)

-- white space is blanks, tabs and the CRLF of a folded line
abbrev pub white : ℕ → Bool
white x = x == 32 || (x == 9 || (x == 13 || x == 10))

abbrev pub behind_white : List ℕ → List ℕ
behind_white [] = []
behind_white (x ∷ s) = cond (white x) (behind_white s) (x ∷ s)

-- behind the colon stands white space or none, then `No` in any letter case, and then the CRLF that ends the field
abbrev pub says_no : List ℕ → Bool
says_no f = same (behind_white (drop 13 f)) (codes "No" ++ 13 ∷ 10 ∷ [])

-- such a field tags No, and one of another value tags as no field does
abbrev pub field_tag : List ℕ → Tag
field_tag f = cond (says_no f) No None

-- what the TLS-Required fields give: two or more are refused
abbrev pub tag_of : List (List ℕ) → Result Tag Refusal
tag_of [] = Ok None
tag_of (f ∷ []) = Ok (field_tag f)
tag_of (f ∷ g ∷ fs) = Err RepeatedTlsRequired

-- the tag of a section: 9 where it breaks its form, then the option, then the fields of its header
abbrev pub tagged : Bool → List ℕ → Result Tag Refusal
tagged require_tls s = cond (well_formed s) (cond require_tls (Ok Required) (tag_of (tls_required (fields (lines_of (header s)))))) (Err BadContent)
