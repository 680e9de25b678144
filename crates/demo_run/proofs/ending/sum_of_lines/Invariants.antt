use Rattle.std.specs.Prelude.{◌≡◌, take}
use Rattle.demo_run.specs.Shown.{lines_of}
use Rattle.demo_run.proofs.ending.sum_of_lines.Given as goal

abbrev pub invariant-loop-row : goal.invariant-loop-row
invariant-loop-row l = l.lines ≡ lines_of (take l.row-index l.rows)
