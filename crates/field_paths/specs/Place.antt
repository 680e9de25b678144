-- The place of an entry that a path names: a root, and the names of the members down to it.
use Rattle.std.specs.Prelude.{ℕ, List}
use Rattle.field_paths.specs.declared.path.Root.{Root}

pub record Place : Type 0 where
  pub root : Root
  pub names : List (List ℕ)
