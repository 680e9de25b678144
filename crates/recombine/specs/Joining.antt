-- What the settings of a recombine say.
use Rattle.std.specs.Prelude.{ℕ, List, Bool}
use Rattle.field_paths.specs.Place.{Place}

pub record Joining : Type 0 where
  -- marks are those of first entries; else they are those of last ones
  pub first_marks : Bool
  -- where the texts are that are joined
  pub field : Place
  -- what stands between two texts
  pub separator : List ℕ
  -- a group of so many entries is ended
  pub most_entries : ℕ
  -- a group's base is its newest entry; else it is its oldest
  pub newest : Bool
