-- How long a change and a checkpoint are.
use Rattle.std.proofs.Common.{◌≡◌, ℕ, ◌+◌, ◌≤◌, Bool, true, false, cond, ltb, List, [], ◌++◌, ◌∷◌, length, refl, arith, length-append}
use Rattle.std.proofs.lemmas.List.Concat.{length-flat_map}
use Rattle.std.proofs.lemmas.List.Sums.{sum_by-cons}
use Rattle.std.specs.Prelude.{sum_by, if◌then◌else◌, nat_lt}
use Rattle.std.specs.List.{flat_map}
use Rattle.std.specs.Int.{w32, w64, to_be_bytes}
use Rattle.file_tracker.specs.declared.row.Row.{Row}
use Rattle.state_codec.proofs.Numbers.{wide32, wide64}
use Rattle.state_codec.specs.Spelling.{bytes_spelling}
use Rattle.checkpoint_store.proofs.ChangeFormats.{observed_size}
use Rattle.checkpoint_store.specs.Spelling.{row_spelling, rows_spelling, era_count_spelling, observed_spelling, checkpoint_spelling, change_spelling}
use Rattle.checkpoint_store.specs.declared.Change.{Change}
use Rattle.checkpoint_store.specs.declared.Checkpoint.{Checkpoint}

pub rows_long : (version : ℕ) (rows : List Row) → length (rows_spelling version rows) ≡ 4 + sum_by (λ row. length (row_spelling version row)) rows
rows_long version rows =
    omega (arith, length-append (to_be_bytes w32 (length rows)) (flat_map (row_spelling version) rows), wide32.size (length rows), length-flat_map (row_spelling version) rows)

pub observed_long : (version observed : ℕ) → length (observed_spelling version observed) ≡ observed_size version
observed_long version observed = by_test (ltb version 2)
  where
    by_test : (b : Bool) → length (cond b [] (to_be_bytes w64 observed)) ≡ cond b 0 8
    by_test true = refl
    by_test false = wide64.size observed

pub observed_short : (version : ℕ) → observed_size version ≤ 8
observed_short version = by_test (ltb version 2)
  where
    by_test : (b : Bool) → cond b 0 8 ≤ 8
    by_test true = omega arith
    by_test false = omega arith

pub change_long : (version : ℕ) (change : Change) → length (change_spelling version change) ≡ 16 + observed_size version + sum_by (λ row. length (row_spelling version row)) change.rows
change_long version change =
    let rows = rows_spelling version change.rows in
    let next = to_be_bytes w32 change.next_id ++ rows in
    omega (
      arith,
      length-append (to_be_bytes w64 change.output_length) (observed_spelling version change.observed ++ next),
      wide64.size change.output_length,
      length-append (observed_spelling version change.observed) next,
      observed_long version change.observed,
      length-append (to_be_bytes w32 change.next_id) rows,
      wide32.size change.next_id,
      rows_long version change.rows,
    )

sum_more : (version : ℕ) (rows : List Row) → sum_by (λ row. length (row_spelling version row)) rows ≤ sum_by (λ row. 16 + length (row_spelling version row)) rows
sum_more version [] = omega arith
sum_more version (row ∷ rows) =
    let rest = sum_more version rows in
    omega (arith, sum_by-cons (λ (row : Row). length (row_spelling version row)) row rows, sum_by-cons (λ (row : Row). 16 + length (row_spelling version row)) row rows)

pub change_cost : (version : ℕ) (change : Change) → length (change_spelling version change) + 18 ≤ 64 + sum_by (λ row. 16 + length (row_spelling version row)) change.rows
change_cost version change = omega (arith, change_long version change, observed_short version, sum_more version change.rows)

-- ---- a whole checkpoint

-- how long the count of eras is, which before version 3 was not told
abbrev pub era_count_size : ℕ → ℕ
era_count_size version = if nat_lt version 3 then 0 else 4

pub era_count_long : (version count : ℕ) → length (era_count_spelling version count) ≡ era_count_size version
era_count_long version count = by_test (ltb version 3)
  where
    by_test : (b : Bool) → length (cond b [] (to_be_bytes w32 count)) ≡ cond b 0 4
    by_test true = refl
    by_test false = wide32.size count

pub era_count_short : (version : ℕ) → era_count_size version ≤ 4
era_count_short version = by_test (ltb version 3)
  where
    by_test : (b : Bool) → cond b 0 4 ≤ 4
    by_test true = omega arith
    by_test false = omega arith

pub checkpoint_long : (version : ℕ) (checkpoint : Checkpoint) → length (checkpoint_spelling version checkpoint)
    ≡ 17 + era_count_size version + observed_size version + sum_by (λ text. length (bytes_spelling text)) checkpoint.eras + sum_by (λ row. length (row_spelling version row)) checkpoint.rows
checkpoint_long version checkpoint =
    let rows = rows_spelling version checkpoint.rows in
    let next = to_be_bytes w32 checkpoint.next_id ++ rows in
    let observed = observed_spelling version checkpoint.observed ++ next in
    let output = to_be_bytes w64 checkpoint.output_length ++ observed in
    let eras = flat_map bytes_spelling checkpoint.eras ++ output in
    omega (
      arith,
      length-append (era_count_spelling version (length checkpoint.eras)) eras,
      era_count_long version (length checkpoint.eras),
      length-append (flat_map bytes_spelling checkpoint.eras) output,
      length-flat_map bytes_spelling checkpoint.eras,
      length-append (to_be_bytes w64 checkpoint.output_length) observed,
      wide64.size checkpoint.output_length,
      length-append (observed_spelling version checkpoint.observed) next,
      observed_long version checkpoint.observed,
      length-append (to_be_bytes w32 checkpoint.next_id) rows,
      wide32.size checkpoint.next_id,
      rows_long version checkpoint.rows,
    )
