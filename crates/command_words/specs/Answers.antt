-- What is answered to words.
use Rattle.std.specs.Prelude.{ℕ, List, Option, Some, None}
use Rattle.command_words.specs.IsCommand.{IsCommand}
use Rattle.command_words.specs.declared.command.Command.{Command}

-- the words spell no command
abbrev pub IsNoCommand : List (List ℕ) → Type 0
IsNoCommand words = (command : Command) → IsCommand words command → ⊥

-- the command that the words spell, or none where they spell none
abbrev pub Answers : List (List ℕ) → Option Command → Type 0
Answers words (Some command) = IsCommand words command
Answers words None = IsNoCommand words
