use Rattle.std.proofs.Common.{◌≡◌, ◌≤◌, take}
use Rattle.std.specs.Prelude.{count_by, sum_by}
use Rattle.folder_audit.specs.Findings.{is_absent, lines_in}
use Rattle.folder_audit.proofs.findings.counted.Given as goal

abbrev pub invariant-loop-finding : goal.invariant-loop-finding
invariant-loop-finding l = record {
  absent : l.absent ≡ count_by is_absent (take l.finding-index l.found);
  few : l.absent ≤ l.finding-index;
  lines : l.lines ≡ sum_by lines_in (take l.finding-index l.found);
}
