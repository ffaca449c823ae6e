-- What tags keep: a header's fields are the whole of it, and the tags of some sections.
use Rattle.std.specs.Prelude.{◌≡◌, ℕ, true, false, List, [], ◌∷◌, ◌++◌, Ok, Err, codes}
use Rattle.smtp.specs.declared.refusal.Refusal.TheVariants.{BadContent, RepeatedTlsRequired}
use Rattle.message.specs.declared.tag.Tag.TheVariants.{Required, No, None}
use Rattle.message.specs.Lines.{lines_of, joined, header}
use Rattle.message.specs.Tags.{fields, tagged}

abbrev pub crlf : List ℕ
crlf = 13 ∷ 10 ∷ []

-- a field that says No, and one of another name
abbrev pub no : List ℕ
no = codes "TLS-Required: No" ++ crlf

abbrev pub subject : List ℕ
subject = codes "Subject: t" ++ crlf

pub record TagsHold : Type 0 where
  -- the fields of a header, one after the other, are the header
  pub whole : (s : List ℕ) → joined (fields (lines_of (header s))) ≡ header s
  -- nothing, and one field in either place
  pub nothing : tagged false [] ≡ Ok None
  pub first : tagged false (no ++ subject) ≡ Ok No
  pub last : tagged false (subject ++ no) ≡ Ok No
  -- any letter case, no white space, and white space over several lines
  pub small : tagged false (codes "tls-required:no" ++ crlf) ≡ Ok No
  pub over : tagged false (codes "TLS-Required:" ++ crlf ++ (9 ∷ crlf) ++ codes "  NO" ++ crlf) ≡ Ok No
  -- other values
  pub blank : tagged false (codes "TLS-Required: No " ++ crlf) ≡ Ok None
  pub longer : tagged false (codes "TLS-Required: Not" ++ crlf) ≡ Ok None
  pub goes_on : tagged false (no ++ codes " 1" ++ crlf) ≡ Ok None
  pub empty : tagged false (codes "TLS-Required:" ++ crlf) ≡ Ok None
  -- two fields, in the header and not
  pub twice : tagged false (no ++ (subject ++ no)) ≡ Err RepeatedTlsRequired
  pub once : tagged false (no ++ (crlf ++ no)) ≡ Ok No
  pub behind : tagged false (subject ++ (crlf ++ no)) ≡ Ok None
  -- a folded line belongs to the field before it, or to none
  pub inside : tagged false (subject ++ (32 ∷ no)) ≡ Ok None
  pub before : tagged false (32 ∷ no) ≡ Ok None
  -- the option, and a broken form
  pub option : tagged true (no ++ no) ≡ Ok Required
  pub broken : tagged true (no ++ 10 ∷ []) ≡ Err BadContent
