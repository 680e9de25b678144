-- What was found so far, with the outside at that moment.
use Rattle.tree_walk.specs.declared.findings.Findings.{Findings}

pub record FoundAt (T : Type 0) : Type 0 where
  pub found : Findings
  pub tree : T

abbrev pub found_at : {T : Type 0} → Findings → T → FoundAt T
found_at found tree = record { found = found; tree = tree }
