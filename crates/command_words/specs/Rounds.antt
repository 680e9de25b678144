-- The number of rounds that a text spells.
use Rattle.std.specs.Prelude.{◌≡◌, ◌≤◌, ℕ, List, Option, Some, None}
use Rattle.std.specs.Fmt.{decimal}
use Rattle.command_words.specs.declared.command.Command.{Command}
use Rattle.command_words.specs.declared.command.Command.TheVariants.{Demo}

-- the text is the number, which a demo may have
abbrev pub SpellsRounds : List ℕ → ℕ → Type 0
SpellsRounds text rounds = (1 ≤ rounds) × (rounds ≤ 1000) × (text ≡ decimal rounds)

-- the number that the text spells, or none where it spells none
abbrev pub AnswersRounds : List ℕ → Option ℕ → Type 0
AnswersRounds text (Some rounds) = SpellsRounds text rounds
AnswersRounds text None = (rounds : ℕ) → SpellsRounds text rounds → ⊥

-- the demo of so many rounds, or no command
abbrev pub AnswersDemo : List ℕ → Option Command → Type 0
AnswersDemo text (Some (Demo rounds)) = SpellsRounds text rounds
AnswersDemo text (Some _) = ⊥
AnswersDemo text None = (rounds : ℕ) → SpellsRounds text rounds → ⊥
