-- The one spelling of each row, checkpoint and change in each version. Version 2 has the observed time more than version 1,
-- and version 3 all eras, and of a row what it says of them and of looks.
use Rattle.std.specs.Prelude.{ℕ, if◌then◌else◌, List, [], ◌∷◌, ◌++◌, length, nat_lt}
use Rattle.std.specs.List.{flat_map}
use Rattle.std.specs.Int.{w32, w64, to_be_bytes}
use Rattle.file_tracker.specs.declared.ends.End.{End}
use Rattle.file_tracker.specs.declared.row.Row.{Row}
use Rattle.state_codec.specs.Spelling.{bytes_spelling}
use Rattle.checkpoint_store.specs.declared.Checkpoint.{Checkpoint}
use Rattle.checkpoint_store.specs.declared.Change.{Change}
use Rattle.checkpoint_store.specs.declared.past.Past.{Past}
use Rattle.checkpoint_store.specs.Rules.{past_of}

abbrev pub end_spelling : End → List ℕ
end_spelling end = to_be_bytes w64 end.offset ++ (to_be_bytes w64 end.records ++ to_be_bytes w64 end.lines)

abbrev pub told_past : Past → List ℕ
told_past past =
    to_be_bytes w32 past.born ++ (to_be_bytes w32 (length past.ends) ++ (flat_map end_spelling past.ends ++ (to_be_bytes w64 past.seen ++ to_be_bytes w32 past.quiet)))

abbrev pub past_spelling : ℕ → Past → List ℕ
past_spelling version past = if nat_lt version 3 then [] else told_past past

abbrev pub row_spelling : ℕ → Row → List ℕ
row_spelling version row =
    to_be_bytes w32 row.id
    ++ (bytes_spelling row.path
    ++ (bytes_spelling row.front
    ++ (to_be_bytes w64 row.start
    ++ (to_be_bytes w64 row.offset
    ++ (to_be_bytes w64 row.records ++ (to_be_bytes w64 row.lines ++ (bytes_spelling row.state ++ past_spelling version (past_of row))))))))

-- the number of rows, and the rows
abbrev pub rows_spelling : ℕ → List Row → List ℕ
rows_spelling version rows = to_be_bytes w32 (length rows) ++ flat_map (row_spelling version) rows

abbrev pub era_count_spelling : ℕ → ℕ → List ℕ
era_count_spelling version count = if nat_lt version 3 then [] else to_be_bytes w32 count

abbrev pub observed_spelling : ℕ → ℕ → List ℕ
observed_spelling version observed = if nat_lt version 2 then [] else to_be_bytes w64 observed

-- behind the byte that is the version
abbrev pub body_spelling : ℕ → Checkpoint → List ℕ
body_spelling version c =
    era_count_spelling version (length c.eras)
    ++ (flat_map bytes_spelling c.eras
    ++ (to_be_bytes w64 c.output_length ++ (observed_spelling version c.observed ++ (to_be_bytes w32 c.next_id ++ rows_spelling version c.rows))))

abbrev pub checkpoint_spelling : ℕ → Checkpoint → List ℕ
checkpoint_spelling version c = version ∷ body_spelling version c

-- under a base of this version
abbrev pub change_spelling : ℕ → Change → List ℕ
change_spelling version c = to_be_bytes w64 c.output_length ++ (observed_spelling version c.observed ++ (to_be_bytes w32 c.next_id ++ rows_spelling version c.rows))
