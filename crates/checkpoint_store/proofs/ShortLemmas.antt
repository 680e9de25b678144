-- No spelling of a checkpoint or a change is long.
use Rattle.std.proofs.Common.{◌≡◌, ℕ, ◌+◌, ◌-◌, ◌*◌, ◌^◌, ◌≤◌, ◌<◌, Bool, true, false, cond, ltb, List, [], ◌++◌, ◌∷◌, length, arith, length-append, ap, inl, inr}
use Rattle.std.proofs.lemmas.Bool.{cases_lt}
use Rattle.std.proofs.lemmas.List.Concat.{length-flat_map}
use Rattle.std.proofs.lemmas.List.Elements.{All-head, All-tail}
use Rattle.std.proofs.lemmas.List.Sums.{sum_by-cons}
use Rattle.std.specs.Prelude.{sum_by}
use Rattle.std.specs.List.{All, flat_map}
use Rattle.std.specs.Int.{w32, w64, to_be_bytes}
use Rattle.file_tracker.specs.declared.ends.End.{End}
use Rattle.file_tracker.specs.declared.row.Row.{Row}
use Rattle.state_codec.proofs.Numbers.{wide32, wide64}
use Rattle.state_codec.specs.Spelling.{bytes_spelling}
use Rattle.checkpoint_store.proofs.Ascending.{most}
use Rattle.checkpoint_store.specs.Decodes.{Spells}
use Rattle.checkpoint_store.specs.Fits.{Ascend, Fits}
use Rattle.checkpoint_store.specs.Rules.{KeepsRules, KeepRules, IsCheckpoint, beside_of, past_of}
use Rattle.checkpoint_store.specs.Spelling.{end_spelling, told_past, past_spelling, row_spelling, checkpoint_spelling, change_spelling}
use Rattle.checkpoint_store.specs.declared.Change.{Change}
use Rattle.checkpoint_store.specs.declared.Checkpoint.{Checkpoint}
use Rattle.checkpoint_store.specs.declared.beside.Beside.{Beside}
use Rattle.checkpoint_store.specs.declared.past.Past.{Past}
use Rattle.checkpoint_store.proofs.CostLemmas.{observed_short, era_count_short, change_long, checkpoint_long}

bytes_long : (bytes : List ℕ) → length (bytes_spelling bytes) ≡ 4 + length bytes
bytes_long bytes = omega (arith, length-append (to_be_bytes w32 (length bytes)) bytes, wide32.size (length bytes))

-- ---- a row

end_long : (end : End) → length (end_spelling end) ≡ 24
end_long end =
    let records = to_be_bytes w64 end.records ++ to_be_bytes w64 end.lines in
    omega (
      arith,
      length-append (to_be_bytes w64 end.offset) records,
      wide64.size end.offset,
      length-append (to_be_bytes w64 end.records) (to_be_bytes w64 end.lines),
      wide64.size end.records,
      wide64.size end.lines,
    )

ends_sum : (ends : List End) → sum_by (λ end. length (end_spelling end)) ends ≡ 24 * length ends
ends_sum [] = omega arith
ends_sum (end ∷ ends) = omega (arith, sum_by-cons (λ (end : End). length (end_spelling end)) end ends, end_long end, ends_sum ends)

pub told_long : (past : Past) → length (told_past past) ≡ 20 + 24 * length past.ends
told_long past =
    let looks = to_be_bytes w64 past.seen ++ to_be_bytes w32 past.quiet in
    let ends = flat_map end_spelling past.ends ++ looks in
    let count = to_be_bytes w32 (length past.ends) ++ ends in
    omega (
      arith,
      length-append (to_be_bytes w32 past.born) count,
      wide32.size past.born,
      length-append (to_be_bytes w32 (length past.ends)) ends,
      wide32.size (length past.ends),
      length-append (flat_map end_spelling past.ends) looks,
      length-flat_map end_spelling past.ends,
      ends_sum past.ends,
      length-append (to_be_bytes w64 past.seen) (to_be_bytes w32 past.quiet),
      wide64.size past.seen,
      wide32.size past.quiet,
    )

past_short : (version : ℕ) (past : Past) → length (past_spelling version past) ≤ 20 + 24 * length past.ends
past_short version past = by_test (ltb version 3)
  where
    by_test : (b : Bool) → length (cond b [] (told_past past)) ≤ 20 + 24 * length past.ends
    by_test true = omega arith
    by_test false = omega (arith, told_long past)

pub row_long : (version : ℕ) (row : Row) → length (row_spelling version row) ≡ 48 + length row.path + length row.front + length row.state + length (past_spelling version (past_of row))
row_long version row =
    let past = past_spelling version (past_of row) in
    let state = bytes_spelling row.state ++ past in
    let lines = to_be_bytes w64 row.lines ++ state in
    let records = to_be_bytes w64 row.records ++ lines in
    let offset = to_be_bytes w64 row.offset ++ records in
    let start = to_be_bytes w64 row.start ++ offset in
    let front = bytes_spelling row.front ++ start in
    let path = bytes_spelling row.path ++ front in
    omega (
      arith,
      length-append (to_be_bytes w32 row.id) path,
      wide32.size row.id,
      length-append (bytes_spelling row.path) front,
      bytes_long row.path,
      length-append (bytes_spelling row.front) start,
      bytes_long row.front,
      length-append (to_be_bytes w64 row.start) offset,
      wide64.size row.start,
      length-append (to_be_bytes w64 row.offset) records,
      wide64.size row.offset,
      length-append (to_be_bytes w64 row.records) lines,
      wide64.size row.records,
      length-append (to_be_bytes w64 row.lines) state,
      wide64.size row.lines,
      length-append (bytes_spelling row.state) past,
      bytes_long row.state,
    )

-- ends aside
row_short : (version : ℕ) (beside : Beside) (row : Row) → KeepsRules beside row → length (row_spelling version row) ≤ 2 ^ 34 + 24 * length row.ends
row_short version beside row keeps = omega (arith, row_long version row, past_short version (past_of row), keeps.path.short, keeps.front.1, keeps.state)

ends_few : (beside : Beside) (row : Row) → beside.eras ≤ 64 → KeepsRules beside row → length row.ends ≤ 64
ends_few beside row few keeps = elim (cases_lt beside.version 3) [
  | inl old ↦ omega (arith, ap (λ (past : Past). length past.ends) (keeps.past.of_version old))
  | inr new ↦ omega (arith, few, keeps.past.eras new)
]

-- ---- rows

rows_short : (version : ℕ) (beside : Beside) (first : ℕ) (rows : List Row) → beside.eras ≤ 64 → KeepRules beside first rows → sum_by (λ row. length (row_spelling version row)) rows ≤ 2 ^ 35 * length rows
rows_short version beside first [] few keep = omega arith
rows_short version beside first (row ∷ rows) few keep =
    let rest = rows_short version beside (first + 1) rows few keep.1.1 in
    omega (arith, sum_by-cons (λ (row : Row). length (row_spelling version row)) row rows, row_short version beside row keep.1.0, ends_few beside row few keep.1.0, rest)

-- beside however many eras
ascending_short : (version : ℕ) (beside : Beside) (low high : ℕ) (rows : List Row) → Ascend beside low high rows → sum_by (λ row. length (row_spelling version row)) rows ≤ 7 * 2 ^ 34 * length rows
ascending_short version beside low high [] ascend = omega arith
ascending_short version beside low high (row ∷ rows) ascend =
    let rest = ascending_short version beside (row.id + 1) high rows ascend.1.1 in
    omega (arith, sum_by-cons (λ (row : Row). length (row_spelling version row)) row rows, row_short version beside row ascend.1.0, ascend.1.0.past.count, rest)

-- ---- the whole of it

eras_short : (eras : List (List ℕ)) → All (λ text. length text < 2 ^ 32) eras → sum_by (λ text. length (bytes_spelling text)) eras ≤ 2 ^ 33 * length eras
eras_short [] short = omega arith
eras_short (text ∷ eras) short =
    let rest = eras_short eras (All-tail (λ (text : List ℕ). length text < 2 ^ 32) text eras short) in
    let first = All-head (λ (text : List ℕ). length text < 2 ^ 32) text eras short in
    omega (arith, sum_by-cons (λ (text : List ℕ). length (bytes_spelling text)) text eras, bytes_long text, first, rest)

pub checkpoint_short : (version : ℕ) (checkpoint : Checkpoint) → IsCheckpoint version checkpoint → length (checkpoint_spelling version checkpoint) ≤ 2 ^ 52
checkpoint_short version checkpoint lawful =
    omega (
      arith,
      checkpoint_long version checkpoint,
      era_count_short version,
      observed_short version,
      eras_short checkpoint.eras lawful.eras.short,
      lawful.eras.few,
      rows_short version (beside_of version checkpoint.eras checkpoint.output_length) 1 checkpoint.rows lawful.eras.few lawful.rows,
      lawful.count,
      lawful.next_id.1,
    )

pub change_short : (version : ℕ) (before : Checkpoint) (change : Change) → Fits version before change → length (change_spelling version change) ≤ 2 ^ 53
change_short version before change fits =
    let beside = beside_of version before.eras change.output_length in
    omega (
      arith,
      change_long version change,
      observed_short version,
      ascending_short version beside 1 (change.next_id - 1) change.rows fits.rows,
      most beside 1 (change.next_id - 1) change.rows fits.rows,
      fits.next_id.1,
    )

pub base_short : (base : List ℕ) (first : Checkpoint) → Spells base first → length base ≤ 2 ^ 52
base_short base first spells = omega (arith, ap length spells.spelled, checkpoint_short spells.version first spells.lawful)
