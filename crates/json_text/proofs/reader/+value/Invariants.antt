use Rattle.std.proofs.Common.{◌+◌, ◌*◌, ◌-◌, ◌≤◌, List, [], ◌∷◌, length, map}
use Rattle.entry_model.specs.Datum.{datum}
use Rattle.entry_model.specs.Seen.{seen}
use Rattle.json_text.specs.Machine.{state, wants_value, wants_name, Frame, in_list}
use Rattle.json_text.specs.Reads.{Leads}
use Rattle.json_text.proofs.reader.+value.Given as goal

abbrev pub decreases-value : goal.decreases-value
decreases-value l = 3 * l.room

abbrev pub decreases-list : goal.decreases-list
decreases-list l = 3 * l.room + 2

abbrev pub decreases-map : goal.decreases-map
decreases-map l = 3 * l.room + 2

abbrev pub decreases-items : goal.decreases-items
decreases-items l = 3 * l.room + 1

abbrev pub decreases-members : goal.decreases-members
decreases-members l = 3 * l.room + 1

abbrev pub invariant-items-loop-read : goal.invariant-items-loop-read
invariant-items-loop-read l = record {
  within : l.place ≤ length l.text;
  leads : Leads {Around = List Frame} l.text l.at (λ frames. state wants_value (in_list [] ∷ frames) l.room) l.place (λ frames. state wants_value (in_list (map datum l.values.items) ∷ frames) l.room);
}

abbrev pub decreases-items-loop-read : goal.decreases-items-loop-read
decreases-items-loop-read l = length l.text - l.place

abbrev pub invariant-members-loop-read : goal.invariant-members-loop-read
invariant-members-loop-read l = record {
  within : l.place ≤ length l.text;
  leads : Leads {Around = List Frame} l.text l.at (λ frames. state (wants_name []) frames l.room) l.place (λ frames. state (wants_name (seen l.fields.entries)) frames l.room);
}

abbrev pub decreases-members-loop-read : goal.decreases-members-loop-read
decreases-members-loop-read l = length l.text - l.place
