-- Sums of the lines of rows.
use Rattle.std.proofs.Common.{◌≡◌, ℕ, ◌+◌, ◌*◌, ◌<◌, ◌≤◌, List, [], ◌∷◌, length, take, get_or, sym, ap, ◌∙◌, arith}
use Rattle.std.proofs.lemmas.List.Sums.{sum_by-cons, sum_by_more, sum_by-take-le}
use Rattle.checkpoint_store.specs.Rules.{IsCheckpoint, KeepRules, beside_of}
use Rattle.checkpoint_store.specs.declared.beside.Beside.{Beside}
use Rattle.checkpoint_store.specs.declared.Checkpoint.{Checkpoint}
use Rattle.demo_run.specs.Shown.{lines_of}
use Rattle.file_tracker.specs.declared.row.Row.{Row}

abbrev lines_by : Row → ℕ
lines_by row = row.lines

pub one_more : (rows : List Row) (i : ℕ) (row : Row) → i < length rows → row ≡ get_or rows i row → lines_of (take (i + 1) rows) ≡ lines_of (take i rows) + row.lines
one_more rows i row within is = sum_by_more lines_by rows i row within ∙ ap (λ (r : Row). lines_of (take i rows) + r.lines) (sym is)

pub part_of_all : (rows : List Row) (i : ℕ) → lines_of (take i rows) ≤ lines_of rows
part_of_all rows i = sum_by-take-le lines_by rows i

few_lines : (beside : Beside) (first : ℕ) (rows : List Row) → beside.output_length ≤ 1099511627776 → KeepRules beside first rows → lines_of rows ≤ length rows * 1099511627776
few_lines beside first [] small keep = omega arith
few_lines beside first (row ∷ rows) small keep = omega (arith, sum_by-cons lines_by row rows, keep.1.0.lines, few_lines beside (first + 1) rows small keep.1.1, small)

pub lines_fit : (version : ℕ) (checkpoint : Checkpoint) → IsCheckpoint version checkpoint → lines_of checkpoint.rows < 18446744073709551616
lines_fit version checkpoint is = omega (arith, few_lines (beside_of version checkpoint.eras checkpoint.output_length) 1 checkpoint.rows is.output_length is.rows, is.count, is.next_id.1)
