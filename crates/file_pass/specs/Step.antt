-- What a step of a pass makes of the rows.
use Rattle.std.specs.Prelude.{List}
use Rattle.file_tracker.specs.declared.row.Row.{Row}
use Rattle.standing.specs.Marks.{Mark}
use Rattle.file_pass.specs.Gain.{Gain}

-- the rows before and after, what was added to the counts, and the lines that were put behind the output
pub record Step : Type 0 where
  pub before : List Row
  pub after : List Row
  pub gain : Gain
  pub added : List Mark

abbrev pub step : List Row → List Row → Gain → List Mark → Step
step before after gain added = record { before = before; after = after; gain = gain; added = added }
