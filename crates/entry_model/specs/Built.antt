-- What contracts see of a map that is made.
use Rattle.std.specs.Prelude.{◌≡◌, ℕ, List, [], ◌++◌}
use mathlib.Core.Logic.{◌⊎◌}
use Rattle.entry_model.specs.ByName.{ByName}
use Rattle.entry_model.specs.declared.value.Value.{Value}

-- the members
abbrev pub Made : Type 0
Made = ByName Value

abbrev pub built : List (List ℕ × Value) → List (List ℕ × Value) → Made
built few many = record { entries = few ++ many }

-- all members stand on one side
abbrev pub IsInOnePlace : List (List ℕ × Value) → List (List ℕ × Value) → Type 0
IsInOnePlace few many = (many ≡ []) ⊎ (few ≡ [])
