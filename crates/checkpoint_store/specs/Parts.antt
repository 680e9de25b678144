-- What parts that are kept elsewhere are, taken together.
use Rattle.std.specs.Prelude.{List, [], ◌∷◌, Bool, true, false}
use Rattle.file_tracker.specs.declared.row.Row.{Row}
use Rattle.checkpoint_store.specs.declared.Change.{Change}
use Rattle.checkpoint_store.specs.declared.Checkpoint.{Checkpoint}
use Rattle.checkpoint_store.specs.declared.in_parts.ChangeParts.{ChangeParts}
use Rattle.checkpoint_store.specs.declared.in_parts.CheckpointParts.{CheckpointParts}

abbrev pub checkpoint_of_parts : CheckpointParts → Checkpoint
checkpoint_of_parts parts = record {
  eras = parts.eras.now;
  output_length = parts.output_length;
  observed = parts.observed;
  next_id = parts.next_id;
  rows = parts.rows.now;
}

-- the rows whose flag is set
abbrev pub flagged : List Bool → List Row → List Row
flagged [] rows = []
flagged (flag ∷ flags) [] = []
flagged (true ∷ flags) (row ∷ rows) = row ∷ flagged flags rows
flagged (false ∷ flags) (row ∷ rows) = flagged flags rows

abbrev pub change_of_parts : ChangeParts → Change
change_of_parts parts = record { output_length = parts.output_length; observed = parts.observed; next_id = parts.next_id; rows = flagged parts.changed.now parts.rows.now }
