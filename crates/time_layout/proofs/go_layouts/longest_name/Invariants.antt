use Rattle.std.proofs.Common.{◌≡◌, ◌-◌}
use Rattle.time_layout.specs.GoLayouts.{longest}
use Rattle.time_layout.proofs.go_layouts.longest_name.Given as goal

abbrev pub invariant-loop-fewer : goal.invariant-loop-fewer
invariant-loop-fewer l = longest 10 l.text ≡ longest (10 - l.fewer) l.text
