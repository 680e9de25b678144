-- The rows of a tracker, as what a pass makes of them.
use Rattle.std.specs.Prelude.{◌+◌, List, length}
use Rattle.standing.specs.Look.{Progress}
use Rattle.standing.specs.Marks.{Mark}
use Rattle.standing.specs.Rows.{Row}

-- the rows, with the lines that were added; ids are places and 1, so the next one is told by the number of rows
abbrev pub progress_of : List Row → List Mark → Progress
progress_of rows added = record { rows = rows; next_id = length rows + 1; added = added }
