use Rattle.std.proofs.Common.{◌≡◌, ◌*◌, ◌-◌, ◌≤◌, ◌++◌, length, take, drop}
use Rattle.otlp_json.specs.Escaped.{escaped}
use Rattle.otlp_json.proofs.block.escape_lanes.Given as goal

abbrev pub invariant-loop-taken : goal.invariant-loop-taken
invariant-loop-taken l = record {
  bytes : take l.made l.block ++ escaped (drop l.taken l.text) ≡ escaped l.text;
  within : l.taken ≤ length l.text;
  room : l.made ≤ 128;
  few : l.made ≤ 6 * l.taken;
  size : length l.block ≡ 128;
}

abbrev pub decreases-loop-taken : goal.decreases-loop-taken
decreases-loop-taken l = length l.text - l.taken
