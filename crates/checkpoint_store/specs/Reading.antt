-- What stands at the front of some bytes, or where it can't go on.
use Rattle.std.specs.Prelude.{ℕ, zero, suc, ◌+◌, ◌-◌, if◌then◌else◌, List, [], ◌∷◌, length, nat_lt, nat_le, ◌&&◌, ◌==◌, Bool, Result, Ok, Err}
use Rattle.std.specs.List.{filter}
use Rattle.std.specs.Int.{Width, w32, w64}
use Rattle.file_tracker.specs.declared.ends.End.{End}
use Rattle.file_tracker.specs.declared.row.Row.{Row}
use Rattle.file_tracker.specs.Limits.{row_limit}
use Rattle.state_codec.specs.Reading.{Reading, ◌>>=◌, number_at, bytes_at, text_at}
use Rattle.checkpoint_store.specs.Limits.{newest, era_limit, front_limit, offset_limit, output_limit, time_limit}
use Rattle.checkpoint_store.specs.declared.Checkpoint.{Checkpoint}
use Rattle.checkpoint_store.specs.declared.Change.{Change}
use Rattle.checkpoint_store.specs.declared.beside.Beside.{Beside}
use Rattle.checkpoint_store.specs.declared.past.Past.{Past}
use Rattle.checkpoint_store.specs.Rules.{no_past, beside_of}

-- a number against the rules can't be there at all
unfoldable pub number_within : Width → ℕ → ℕ → List ℕ → Reading ℕ
number_within w low high bytes = do
  n ← number_at w bytes
  if nat_le low n.0 && nat_le n.0 high then Ok n else Err (length bytes)

-- so many of a kind, each read by what is known in front of it and by how many come behind it
abbrev pub list_at : {S Y : Type 0} → (S → ℕ → List ℕ → Reading Y) → (S → Y → S) → S → ℕ → List ℕ → Reading (List Y)
list_at read next known zero bytes = Ok ([], bytes)
list_at read next known (suc n) bytes = do
  first ← read known n bytes
  rest ← list_at read next (next known first.0) n first.1
  Ok (first.0 ∷ rest.0, rest.1)

-- ---- rows

unfoldable pub front_at : List ℕ → Reading (List ℕ)
front_at bytes = do
  size ← number_within w32 1 front_limit bytes
  bytes_at bytes

-- no number falls from one point to the end, or from there to the other point
unfoldable pub end_at : End → End → List ℕ → Reading End
end_at from to bytes = do
  offset ← number_within w64 from.offset to.offset bytes
  records ← number_within w64 from.records to.records offset.1
  lines ← number_within w64 from.lines to.lines records.1
  Ok (record { offset = offset.0; records = records.0; lines = lines.0 }, lines.1)

-- so many ends
abbrev pub ends_at : End → End → ℕ → List ℕ → Reading (List End)
ends_at from to count bytes = list_at (λ last _ rest. end_at last to rest) (λ _ end. end) from count bytes

unfoldable pub told_past_at : Beside → End → End → List ℕ → Reading Past
told_past_at beside from to bytes = do
  born ← number_within w32 1 beside.eras bytes
  count ← number_within w32 (beside.eras - born.0) (beside.eras - born.0) born.1
  ends ← ends_at from to count.0 count.1
  seen ← number_at w64 ends.1
  quiet ← number_at w32 seen.1
  Ok (record { born = born.0; ends = ends.0; seen = seen.0; quiet = quiet.0 }, quiet.1)

-- what stands behind a row's state, which before version 3 was nothing
unfoldable pub past_at : Beside → End → End → List ℕ → Reading Past
past_at beside from to bytes = if nat_lt beside.version 3 then Ok (no_past, bytes) else told_past_at beside from to bytes

-- a row whose id is between these two
unfoldable pub row_at : Beside → ℕ → ℕ → List ℕ → Reading Row
row_at beside low high bytes = do
  id ← number_within w32 low high bytes
  path ← text_at id.1
  front ← front_at path.1
  start ← number_within w64 0 offset_limit front.1
  offset ← number_within w64 start.0 offset_limit start.1
  records ← number_within w64 0 (offset.0 - start.0) offset.1
  lines ← number_within w64 0 beside.output_length records.1
  state ← bytes_at lines.1
  past ← past_at beside (record { offset = start.0; records = 0; lines = 0 }) (record { offset = offset.0; records = records.0; lines = lines.0 }) state.1
  Ok (
    record {
      id = id.0;
      path = path.0;
      front = front.0;
      start = start.0;
      offset = offset.0;
      records = records.0;
      lines = lines.0;
      state = state.0;
      born = past.0.born;
      ends = past.0.ends;
      seen = past.0.seen;
      quiet = past.0.quiet;
    },
    past.1,
  )

-- so many rows by ascending id, from `low` to `high`; each leaves an id for each row behind it
abbrev pub ascending_at : Beside → ℕ → ℕ → ℕ → List ℕ → Reading (List Row)
ascending_at beside low high count bytes = list_at (λ least n rest. row_at beside least (high - n) rest) (λ _ row. row.id + 1) low count bytes

-- ---- checkpoints

unfoldable pub version_at : List ℕ → Reading ℕ
version_at [] = Err 0
version_at (version ∷ rest) = if nat_le 1 version && nat_le version newest then Ok (version, rest) else Err (suc (length rest))

-- before version 3 there was one, which was not told
unfoldable pub era_count_at : ℕ → List ℕ → Reading ℕ
era_count_at version bytes = if nat_lt version 3 then Ok (1, bytes) else number_within w32 1 era_limit bytes

-- so many settings texts
abbrev pub texts_at : ℕ → List ℕ → Reading (List (List ℕ))
texts_at count bytes = list_at {S = ℕ} (λ _ _ rest. bytes_at rest) (λ known _. known) 0 count bytes

-- a time that is no earlier than this one, which before version 2 stood still and was not told
unfoldable pub observed_at : ℕ → ℕ → List ℕ → Reading ℕ
observed_at version before bytes = if nat_lt version 2 then Ok (before, bytes) else number_within w64 before time_limit bytes

-- what stands behind the version; there are as many rows as there are ids
unfoldable pub checkpoint_at : ℕ → List ℕ → Reading Checkpoint
checkpoint_at version bytes = do
  count ← era_count_at version bytes
  eras ← texts_at count.0 count.1
  output ← number_within w64 0 output_limit eras.1
  observed ← observed_at version 0 output.1
  next ← number_within w32 1 (row_limit + 1) observed.1
  size ← number_within w32 (next.0 - 1) (next.0 - 1) next.1
  rows ← ascending_at (beside_of version eras.0 output.0) 1 (next.0 - 1) size.0 size.1
  Ok (
    record {
      eras = eras.0;
      output_length = output.0;
      observed = observed.0;
      next_id = next.0;
      rows = rows.0;
    },
    rows.1,
  )

-- a checkpoint of any version, with its version
unfoldable pub any_checkpoint_at : List ℕ → Reading (ℕ × Checkpoint)
any_checkpoint_at bytes = do
  version ← version_at bytes
  c ← checkpoint_at version.0 version.1
  Ok ((version.0, c.0), c.1)

-- a checkpoint, and nothing behind it
unfoldable pub whole_checkpoint : List ℕ → Result Checkpoint ℕ
whole_checkpoint bytes = any_checkpoint_at bytes >>= λ c. if nat_lt 0 (length c.1) then Err (length c.1) else Ok c.0.1

-- ---- changes

-- whether all ids from `first` up to `next` are there, in rows whose ids ascend below `next`
abbrev pub has_new : ℕ → ℕ → List Row → Bool
has_new first next rows = length (filter (λ row. nat_le first row.id) rows) == next - first

-- a change of this checkpoint; where a new id is missing, the count of rows can't be there
unfoldable pub change_at : ℕ → Checkpoint → List ℕ → Reading Change
change_at version before bytes = do
  output ← number_within w64 before.output_length output_limit bytes
  observed ← observed_at version before.observed output.1
  next ← number_within w32 before.next_id (row_limit + 1) observed.1
  count ← number_within w32 (next.0 - before.next_id) (next.0 - 1) next.1
  rows ← ascending_at (beside_of version before.eras output.0) 1 (next.0 - 1) count.0 count.1
  if has_new before.next_id next.0 rows.0 then Ok (record { output_length = output.0; observed = observed.0; next_id = next.0; rows = rows.0 }, rows.1) else Err (length next.1)

-- a change, and nothing behind it
unfoldable pub whole_change : ℕ → Checkpoint → List ℕ → Result Change ℕ
whole_change version before bytes = change_at version before bytes >>= λ c. if nat_lt 0 (length c.1) then Err (length c.1) else Ok c.0
