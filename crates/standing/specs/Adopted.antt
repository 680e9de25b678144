-- What becomes of a checkpoint when other settings are adopted: each file's last part ends where it was read, what the operators
-- held back of it comes out, and an empty part under the next settings follows.
use Rattle.std.specs.Prelude.{◌≡◌, ℕ, ◌+◌, List, [], ◌∷◌, ◌++◌, length, map, flat_map, if◌then◌else◌, Option, None, Some}
use Rattle.file_tracker.specs.declared.ends.End.{End}
use Rattle.standing.specs.Eras.{Eras, last_era}
use Rattle.standing.specs.Marks.{Mark, numbered}
use Rattle.standing.specs.Rows.{Row, Checkpoint}
use Rattle.standing.specs.Rules.{Rules, output_text}

-- the eras with one more
abbrev pub with_era : Eras → Rules → Eras
with_era eras next = record { first = eras.first; later = eras.later ++ next ∷ [] }

-- how far the row has come once what its operators held back has come out
abbrev pub end_of : Rules → Row → End
end_of rules row = record { offset = row.offset; records = row.records; lines = row.lines + length (rules.closed row.state) }

abbrev pub row_adopted : Rules → Rules → Row → Row
row_adopted rules next row = record row { lines = (end_of rules row).lines; state = next.fresh; ends = row.ends ++ end_of rules row ∷ [] }

abbrev pub lines_closed : Rules → Option ℕ → Row → List Mark
lines_closed rules time row = numbered row.id (row.lines + 1) time (rules.closed row.state)

-- the time of the lines that come out, where the settings that end ask for one
abbrev pub closing_time : Rules → ℕ → Option ℕ
closing_time rules observed = if rules.stamps then Some observed else None

pub record Adopts (eras : Eras) (next : Rules) (before after : Checkpoint) (added : List Mark) : Type 0 where
  pub texts : after.eras ≡ before.eras ++ next.settings ∷ []
  pub rows : after.rows ≡ map (row_adopted (last_era eras) next) before.rows
  pub next_id : after.next_id ≡ before.next_id
  pub observed : after.observed ≡ before.observed
  -- the lines of the rows in their order
  pub lines : added ≡ flat_map (lines_closed (last_era eras) (closing_time (last_era eras) before.observed)) before.rows
  pub output_length : after.output_length ≡ before.output_length + length (output_text (last_era eras) added)
