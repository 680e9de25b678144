-- What a walk answers of what it found in the end.
use Rattle.std.specs.Prelude.{◌≡◌, ℕ, List, length}
use Rattle.tree_walk.specs.Calls.{in_32_bits}
use Rattle.tree_walk.specs.Inner.Gained.{IsSorted}
use Rattle.tree_walk.specs.declared.findings.Findings.{Findings}
use Rattle.tree_walk.specs.declared.walk.Walk.{Walk}

pub record IsFinished (found : Findings) (walk : Walk) : Type 0 where
  pub paths : IsSorted found.paths.items walk.paths.items
  pub failed : walk.failed ≡ in_32_bits found.failed
  pub deep_folders : List (List ℕ)
  pub deep_sorted : IsSorted found.folders.items deep_folders
  pub deep : walk.deep ≡ in_32_bits (length deep_folders)
