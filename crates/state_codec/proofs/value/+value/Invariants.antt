use Rattle.std.proofs.Common.{◌≡◌, ◌+◌, ◌-◌, ◌*◌, map}
use Rattle.entry_model.specs.Datum.{datum}
use Rattle.entry_model.specs.Seen.{seen}
use Rattle.state_codec.specs.Reading.{value_at, list_at, map_at, items_at, members_at, last_key}
use Rattle.state_codec.proofs.Fronts.{with_front}
use Rattle.state_codec.proofs.value.+value.Given as goal

abbrev pub decreases-read_value : goal.decreases-read_value
decreases-read_value l = l.room * 3 + 2

abbrev pub decreases-read_tagged : goal.decreases-read_tagged
decreases-read_tagged l = l.room * 3 + 1

abbrev pub decreases-read_list : goal.decreases-read_list
decreases-read_list l = l.room * 3 + 3

abbrev pub decreases-read_map : goal.decreases-read_map
decreases-read_map l = l.room * 3 + 3

abbrev pub invariant-read_list-loop : goal.invariant-read_list-loop
invariant-read_list-loop l =
    with_front (map datum l.values.items) (items_at (value_at l.room) (l.count - l.counter) l.rest) ≡ list_at (value_at l.room) l.fn.bytes

abbrev pub invariant-read_map-loop : goal.invariant-read_map-loop
invariant-read_map-loop l =
    with_front (seen l.fields.entries) (members_at (value_at l.room) (last_key l.fields.entries) (l.count - l.counter) l.rest) ≡ map_at (value_at l.room) l.fn.bytes
