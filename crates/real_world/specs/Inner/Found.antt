-- The size that the machine's tree tells of a file.
use Rattle.std.specs.Prelude.{◌≤◌}
use Rattle.outside.specs.Opening.{largest_size}
use Rattle.real_world.specs.declared.tree.Found.{Found}
use Rattle.real_world.specs.declared.tree.Found.TheVariants.{File, Gone, NotAFile}

abbrev pub IsFoundSize : Found → Type 0
IsFoundSize (File _ size) = size ≤ largest_size
IsFoundSize Gone = Unit {0}
IsFoundSize NotAFile = Unit {0}
