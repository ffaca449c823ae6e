-- A MAIL line as the reader holds it: what it hands out, and what it knows of the options that it has seen.
use Rattle.std.specs.Prelude.{ℕ, Bool, true, false, cond, not, ◌&&◌, ◌||◌, List, length, Some, None, Ok, Err, Option, Result, ◌==◌, nat_lt}
use Rattle.smtp.specs.declared.refusal.Refusal.{Refusal}
use Rattle.smtp.specs.declared.refusal.Refusal.TheVariants.{MailLineForm, UnknownOption, RepeatedOption, RequireTlsInClear}
use Rattle.smtp.specs.Bytes.{all, some}
use Rattle.smtp.specs.Parts.{first_part, other_parts}
use Rattle.message.specs.declared.mail_line.MailLine.{MailLine}
use Rattle.message.specs.declared.mail_line.Command.{Command}
use Rattle.message.specs.declared.mail_options.Count.{Count}
use Rattle.message.specs.declared.mail_options.Count.TheVariants.{Never, Once, Repeated}
use Rattle.message.specs.declared.mail_options.Options.{Options}
use Rattle.message.specs.MailLines.{Mail, ends, inner, path_of, tail_of, option_form, is_known, is_require_tls, is_size, is_ret, twice}

-- what a line that was read says
abbrev pub said : MailLine → Mail
said line = record { path = line.path.now; place = line.place; require_tls = line.require_tls }

-- one option more
abbrev pub counted : Count → Bool → Count
counted count false = count
counted Never true = Once
counted Once true = Repeated
counted Repeated true = Repeated

abbrev pub is_seen : Count → Bool
is_seen Never = false
is_seen Once = true
is_seen Repeated = true

abbrev pub is_repeated : Count → Bool
is_repeated Never = false
is_repeated Once = false
is_repeated Repeated = true

-- before the first option: whether it stands right behind the path
abbrev pub none_seen : Bool → Options
none_seen formed = record { formed = formed; known = true; require_tls = Never; size = Never; ret = Never }

abbrev pub seen : Options → List ℕ → Options
seen options option = record {
  formed = options.formed && option_form option;
  known = options.known && is_known option;
  require_tls = counted options.require_tls (is_require_tls option);
  size = counted options.size (is_size option);
  ret = counted options.ret (is_ret option);
}

-- how many options pass the test: none, one, or two or more
abbrev pub count_of : (List ℕ → Bool) → List (List ℕ) → Count
count_of test options = cond (twice test options) Repeated (cond (some test options) Once Never)

-- what stands behind a path is nothing but options, each after one blank
abbrev pub options_in : List ℕ → Options
options_in tail = record {
  formed = length (first_part 32 tail) == 0 && all option_form (other_parts 32 tail);
  known = all is_known (other_parts 32 tail);
  require_tls = count_of is_require_tls (other_parts 32 tail);
  size = count_of is_size (other_parts 32 tail);
  ret = count_of is_ret (other_parts 32 tail);
}

-- the options' refusals, in their order
abbrev pub checked : Options → Bool → Result (Unit {0}) Refusal
checked options covered =
    cond (not options.formed) (Err MailLineForm)
    (cond (not options.known) (Err UnknownOption)
    (cond (is_repeated options.require_tls || (is_repeated options.size || is_repeated options.ret)) (Err RepeatedOption)
    (cond (is_seen options.require_tls && not covered) (Err RequireTlsInClear)
    (Ok tt))))

-- a line with its two ends and a `>`: what stands before and behind that
abbrev pub cut : Command → List ℕ × List ℕ
cut command = (command.path.now, command.tail.now)

abbrev pub command_of : List ℕ → Option (List ℕ × List ℕ)
command_of line = cond (ends line && nat_lt (length (path_of line)) (length (inner line))) (Some (path_of line, tail_of line)) None
