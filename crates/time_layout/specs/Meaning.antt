-- What contracts see of a layout.
use Rattle.std.specs.Prelude.{List, ℤ}
use Rattle.time_layout.specs.declared.parts.Part.{Part}

pub record Meaning : Type 0 where
  pub parts : List Part
  -- in seconds east of UTC
  pub location : ℤ
