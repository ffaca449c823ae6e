-- The commands of the program: the name of each, how many words stand behind it, and what words ask for.
use Rattle.std.specs.Prelude.{◌≡◌, ℕ, suc, List, [], ◌∷◌, length, Ok, Err, codes, Result, ◌≢◌}
use Rattle.balgwir.specs.declared.verb.Verb.{Verb}
use Rattle.balgwir.specs.declared.verb.Verb.TheVariants.{Reply, Explain, Covers, Tag, Policy, Sheet, Help}
use Rattle.balgwir.specs.declared.command.Command.{Command}
use Rattle.balgwir.specs.declared.command.Command.TheVariants as command
use Rattle.balgwir.specs.declared.command.UsageError.{UsageError}
use Rattle.balgwir.specs.declared.command.UsageError.TheVariants.{NoCommand, UnknownCommand, WrongOperands, NotCoverage}

abbrev pub verb_name : Verb → List ℕ
verb_name Reply = codes "reply"
verb_name Explain = codes "explain"
verb_name Covers = codes "covers"
verb_name Tag = codes "tag"
verb_name Policy = codes "policy"
verb_name Sheet = codes "sheet"
verb_name Help = codes "help"

-- how many words stand behind the name
abbrev pub operand_count : Verb → ℕ
operand_count Reply = 1
operand_count Explain = 1
operand_count Covers = 2
operand_count Tag = 3
operand_count Policy = 2
operand_count Sheet = 1
operand_count Help = 0

-- the words that a command is asked for by: its name and its operands
abbrev pub spoken : Command → List (List ℕ)
spoken (command.Reply file) = verb_name Reply ∷ file.now ∷ []
spoken (command.Explain file) = verb_name Explain ∷ file.now ∷ []
spoken (command.Covers pattern name) = verb_name Covers ∷ pattern.now ∷ name.now ∷ []
spoken (command.Tag line header coverage) = verb_name Tag ∷ line.now ∷ header.now ∷ coverage.now ∷ []
spoken (command.Policy file name) = verb_name Policy ∷ file.now ∷ name.now ∷ []
spoken (command.Sheet file) = verb_name Sheet ∷ file.now ∷ []
spoken command.Help = verb_name Help ∷ []

-- words that begin with one
abbrev pub BeginsWith : List ℕ → List (List ℕ) → Type 0
BeginsWith first [] = ⊥
BeginsWith first (word ∷ words) = word ≡ first

-- why words ask for no command: there are none, the first is no command's name, or too few or too many stand behind it
abbrev pub Wrong : List (List ℕ) → UsageError → Type 0
Wrong words NoCommand = words ≡ []
Wrong words (UnknownCommand name) = BeginsWith name.now words × ((v : Verb) → verb_name v ≢ name.now)
Wrong words (WrongOperands v) = BeginsWith (verb_name v) words × (length words ≢ suc (operand_count v))
Wrong words (NotCoverage word) = ⊥

-- what words ask for: the command that they spell, or why they ask for none
abbrev pub Asked : List (List ℕ) → Result Command UsageError → Type 0
Asked words (Ok c) = words ≡ spoken c
Asked words (Err e) = Wrong words e
