-- How the records of a sheet are printed: the lines of a reply, and the words for its end.
use Rattle.std.specs.Prelude.{ℕ, suc, ◌-◌, ◌^◌, Bool, false, cond, List, [], ◌∷◌, ◌++◌, codes, nat_eq, Ok, Err, None, Option, Result}
use Rattle.smtp.specs.declared.refusal.Refusal.{Refusal}
use Rattle.std.specs.Fmt.{padded_integral, format_spec, digits}
use Rattle.std.specs.Int.{is_in_range}
use Rattle.std.specs.List.{starts_with, ends_with}

-- a byte of 32 to 126 as it is, and another as `\x` and two hexadecimal digits
abbrev pub shown_byte : ℕ → List ℕ
shown_byte b = cond (is_in_range 32 126 b) (b ∷ []) (codes "\\x" ++ padded_integral (format_spec 32 0 4 2 (2 ^ 64 - 1)) false [] (digits 16 false b))

-- how many bytes stand before the first CRLF, or before the end
abbrev pub line_len : List ℕ → ℕ
line_len [] = 0
line_len (x ∷ s) = cond (starts_with nat_eq (x ∷ s) (codes "\r\n")) 0 (suc (line_len s))

abbrev pub ends_in_crlf : List ℕ → Bool
ends_in_crlf s = ends_with nat_eq s (codes "\r\n")

-- what is said of the end of a reply, which is CRLF or not
abbrev pub end_note : Bool → List ℕ
end_note crlf = cond crlf [] (codes ", no CRLF at the end")

-- of an input that is not refused is printed what its answer prints; of a refusal it is not said here
abbrev pub answer_output : {T : Type 0} → (T → Option (List ℕ)) → Result T Refusal → Option (List ℕ)
answer_output output (Ok answer) = output answer
answer_output output (Err refusal) = None
