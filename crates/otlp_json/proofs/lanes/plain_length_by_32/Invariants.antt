use Rattle.std.proofs.Common.{◌≤◌, ◌-◌}
use Rattle.std.specs.List.{position_or_len}
use Rattle.otlp_json.specs.Escaped.{needs_escape}
use Rattle.otlp_json.proofs.lanes.plain_length_by_32.Given as goal

abbrev pub invariant-loop-at : goal.invariant-loop-at
invariant-loop-at l = l.at ≤ position_or_len needs_escape l.text

abbrev pub decreases-loop-at : goal.decreases-loop-at
decreases-loop-at l = l.last - l.at
