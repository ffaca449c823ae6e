-- Worked examples of the definitions, as one table that grows with them: each row says what a definition answers.
use Rattle.std.specs.Prelude.{◌≡◌, ℕ, Bool, true, false, cond, not, ◌&&◌, List, [], ◌∷◌, codes, ◌==◌}
use Rattle.smtp.specs.Bytes.{all}
use Rattle.smtp.specs.Names.{address, covers_name, names_cover}
use Rattle.smtp.specs.Replies.{well_formed}
use Rattle.smtp.specs.Keywords.{listed}

-- a text whose slashes stand for CRLF
abbrev pub slashed : List ℕ → List ℕ
slashed [] = []
slashed (x ∷ s) = cond (x == 47) (13 ∷ 10 ∷ slashed s) (x ∷ slashed s)

pub data Example : Type 0 where
  -- a well-formed reply lists a word, or does not
  lists : List ℕ → List ℕ → Bool → Example
  -- a text is a well-formed reply, or is not
  reply : List ℕ → Bool → Example
  -- a pattern covers a name, or does not
  covers : List ℕ → List ℕ → Bool → Example
  -- a names text covers a host, or does not
  names : List ℕ → List ℕ → Bool → Example
  -- a text is a mail address, or is not
  mail : List ℕ → Bool → Example

-- both are true, or neither
abbrev pub agrees : Bool → Bool → Bool
agrees true b = b
agrees false b = not b

-- the definitions answer what the row says
abbrev pub right : Example → Bool
right (lists r word a) = well_formed r && agrees (listed r word) a
right (reply r a) = agrees (well_formed r) a
right (covers p n a) = agrees (covers_name p n) a
right (names t h a) = agrees (names_cover t h) a
right (mail s a) = agrees (address s) a

abbrev pub requiretls : List ℕ
requiretls = codes "REQUIRETLS"

abbrev pub examples : List Example
examples =
    lists (slashed (codes "250-a/250 REQUIRETLS/")) requiretls true
    ∷ lists (slashed (codes "250-REQUIRETLS/250 HELP/")) requiretls false
    ∷ lists (slashed (codes "250-a/250 REQUIRETLS 1/")) requiretls false
    ∷ lists (slashed (codes "250-a/250-RequireTls/250 HELP/")) requiretls true
    ∷ lists (slashed (codes "250-a/250-REQUIRETLS /250 HELP/")) requiretls false
    ∷ lists (slashed (codes "250-a/250/")) requiretls false
    ∷ reply (slashed (codes "250/")) true
    ∷ reply (slashed (codes "250 ok")) false
    ∷ reply (slashed (codes "")) false
    ∷ reply (slashed (codes "250 a/250 b/")) false
    ∷ reply (slashed (codes "250-a/251 b/")) false
    ∷ reply (slashed (codes "250/250 b/")) false
    ∷ reply (slashed (codes "199 a/")) false
    ∷ reply (slashed (codes "260 a/")) false
    ∷ reply (slashed (codes "600 a/")) false
    ∷ reply (slashed (codes "250_a/")) false
    ∷ covers (codes "*.d.example") (codes "m.d.example") true
    ∷ covers (codes "*.d.example") (codes "d.example") false
    ∷ covers (codes "*.d.example") (codes "a.m.d.example") false
    ∷ covers (codes "M.d.example") (codes "m.D.example") true
    ∷ covers (codes "*.d.example") (codes "*.d.example") false
    ∷ covers (codes "*") (codes "example") false
    ∷ covers (codes "*.") (codes "example") false
    ∷ covers (codes "") (codes "") false
    ∷ names (codes "a.example *.d.example") (codes "m.d.example") true
    ∷ names (codes "a.example  b.example") (codes "b.example") true
    ∷ names (codes "a.example,b.example") (codes "b.example") false
    ∷ names (codes "") (codes "a.example") false
    ∷ mail (codes "a@b.example") true
    ∷ mail (codes "a.b+c@d.example") true
    ∷ mail (codes ".a@b.example") false
    ∷ mail (codes "a..b@c.example") false
    ∷ mail (codes "@b.example") false
    ∷ mail (codes "a@b@c.example") false
    ∷ mail (codes "a") false
    ∷ []

-- every row is right
abbrev pub ExamplesHold : Type 0
ExamplesHold = all right examples ≡ true
