use Rattle.std.specs.Prelude.{ℕ, List, ⊤}
use Rattle.std.specs.Str.{IsUtf8}
use Rattle.field_paths.specs.declared.read.Phase.{Phase}
use Rattle.field_paths.specs.declared.read.Phase.TheVariants as phase

-- a name that may end is UTF-8; one that goes on may end amid a character
abbrev pub NameIsText : Phase → List ℕ → Type 0
NameIsText phase.Start name = ⊤
NameIsText (phase.Root matched) name = ⊤
NameIsText phase.Between name = ⊤
NameIsText phase.Dot name = ⊤
NameIsText phase.Name name = IsUtf8 name
NameIsText phase.Bracket name = ⊤
NameIsText (phase.Quoted quote) name = ⊤
NameIsText (phase.Escape quote) name = ⊤
NameIsText phase.Closing name = IsUtf8 name
