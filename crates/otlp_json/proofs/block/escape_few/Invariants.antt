use Rattle.std.proofs.Common.{◌≡◌, ◌*◌, ◌-◌, ◌≤◌, ◌++◌, length, take, drop}
use Rattle.otlp_json.specs.Escaped.{escaped}
use Rattle.otlp_json.proofs.block.escape_few.Given as goal

abbrev pub invariant-loop-at : goal.invariant-loop-at
invariant-loop-at l = record {
  bytes : take l.len l.block ++ escaped (drop l.at l.text) ≡ take l.made l.initial.block ++ escaped (drop l.taken l.text);
  behind : l.taken ≤ l.at;
  within : l.at ≤ length l.text;
  room : l.len ≤ 128;
  few : l.len ≤ 6 * l.at;
  size : length l.block ≡ 128;
}

abbrev pub decreases-loop-at : goal.decreases-loop-at
decreases-loop-at l = length l.text - l.at
