use Rattle.std.specs.Prelude.{ℕ, List, ⊤}
use Rattle.field_paths.specs.declared.path.PathFault.{PathFault}
use Rattle.field_paths.specs.declared.path.PathFault.TheVariants.{NotAPath, Memory}
use Rattle.field_paths.specs.PathText.{IsFaultAt}

-- the place of a text that is no path
abbrev pub IsReadFault : List ℕ → PathFault → Type 0
IsReadFault text (NotAPath at) = IsFaultAt text at
IsReadFault text Memory = ⊤
