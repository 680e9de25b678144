use Rattle.folder_audit.specs.Tally.{NoneDiffer}
use Rattle.folder_audit.proofs.findings.first_other.Given as goal

abbrev pub invariant-loop-place : goal.invariant-loop-place
invariant-loop-place l = NoneDiffer l.found l.place
