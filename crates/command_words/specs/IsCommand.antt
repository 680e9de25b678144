-- The words of each command.
use Rattle.std.specs.Prelude.{◌≡◌, ◌≤◌, ℕ, List, [], ◌∷◌, codes}
use Rattle.std.specs.Fmt.{decimal}
use Rattle.command_words.specs.declared.command.Command.{Command}
use Rattle.command_words.specs.declared.command.Command.TheVariants.{Once, Follow, Adopt, Audit, Committed, Pipe, Demo}

-- the words spell the command. `decimal` has neither a sign nor a leading zero
abbrev pub IsCommand : List (List ℕ) → Command → Type 0
IsCommand words Once = words ≡ codes "once" ∷ []
IsCommand words Follow = words ≡ codes "follow" ∷ []
IsCommand words Adopt = words ≡ codes "adopt" ∷ []
IsCommand words Audit = words ≡ codes "audit" ∷ []
IsCommand words Committed = words ≡ codes "committed" ∷ []
IsCommand words Pipe = words ≡ codes "pipe" ∷ []
IsCommand words (Demo rounds) = (1 ≤ rounds) × (rounds ≤ 1000) × (words ≡ codes "demo" ∷ decimal rounds ∷ [])
