use Rattle.std.proofs.Common.{◌≡◌, drop}
use Rattle.time_layout.specs.Drafts.{draft_of}
use Rattle.time_layout.specs.LayoutText.{layout_parts, layout_from}
use Rattle.time_layout.proofs.directives.read_parts_of.Given as goal

abbrev pub invariant-loop-at : goal.invariant-loop-at
invariant-loop-at l = layout_parts l.text ≡ layout_from (drop l.at l.text) l.at (draft_of l.sketch)
