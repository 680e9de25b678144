use Rattle.std.proofs.Common.{◌≡◌, drop}
use Rattle.time_layout.specs.GoDrafts.{name_draft_of}
use Rattle.time_layout.specs.GoLayouts.{go_draft, names_from}
use Rattle.time_layout.proofs.go_layouts.read_names_of.Given as goal

abbrev pub invariant-loop-at : goal.invariant-loop-at
invariant-loop-at l = go_draft l.text ≡ names_from (drop l.at l.text) l.at (name_draft_of l.sketch)
