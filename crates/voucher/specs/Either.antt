-- The set of either of two vouchers: the union of their sets.
use Rattle.std.specs.Prelude.{ℕ, Bool, ◌||◌, List}

abbrev pub union : (List ℕ → Bool) → (List ℕ → Bool) → List ℕ → Bool
union first second name = first name || second name
