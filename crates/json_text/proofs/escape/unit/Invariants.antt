use Rattle.std.proofs.Common.{◌≡◌, ◌≤◌, ◌<◌, ◌+◌, ◌-◌, length, drop, get_or}
use Rattle.json_text.specs.Machine.{Content, state, unit_phase, outcome}
use Rattle.json_text.specs.Reads.{AroundText}
use Rattle.json_text.proofs.escape.unit.Given as goal

abbrev pub invariant-loop-count : goal.invariant-loop-count
invariant-loop-count l = record {
  few : l.count ≤ 4;
  within : l.at + l.count ≤ length l.text;
  small : (l.count ≡ 0 → l.unit < 1) × (l.count ≡ 1 → l.unit < 16) × (l.count ≡ 2 → l.unit < 256) × (l.count ≡ 3 → l.unit < 4096);
  last : 0 < l.count → get_or l.text (l.at + l.count - 1) 0 < 128;
  leads : (content : Content) (around : AroundText) → outcome (state (unit_phase around.0 content 4 0) around.1.0 around.1.1) (drop l.at l.text) l.at
      ≡ outcome (state (unit_phase around.0 content (4 - l.count) l.unit) around.1.0 around.1.1) (drop (l.at + l.count) l.text) (l.at + l.count);
}
