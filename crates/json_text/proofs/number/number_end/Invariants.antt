use Rattle.std.proofs.Common.{◌≡◌, ◌<◌, ◌≤◌, true, ◌-◌, [], length, drop, slice_range, IsAscii}
use Rattle.json_text.specs.declared.number.Part.TheVariants as part
use Rattle.json_text.specs.Machine.{outcome, can_end}
use Rattle.json_text.specs.Reads.{Around, number_from}
use Rattle.json_text.proofs.number.number_end.Given as goal

abbrev pub invariant-loop-next : goal.invariant-loop-next
invariant-loop-next l = record {
  low : l.at ≤ l.end;
  high : l.end ≤ length l.text;
  begun : can_end l.part ≡ true → l.at < l.end;
  ascii : IsAscii (slice_range l.text l.at l.end);
  leads : (around : Around) → outcome (number_from part.Start [] around) (drop l.at l.text) l.at
      ≡ outcome (number_from l.part (slice_range l.text l.at l.end) around) (drop l.end l.text) l.end;
}

abbrev pub decreases-loop-next : goal.decreases-loop-next
decreases-loop-next l = length l.text - l.end
