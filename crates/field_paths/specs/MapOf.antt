-- The map that the entries of a map in memory are.
use Rattle.std.specs.Prelude.{ℕ, List, map}
use Rattle.entry_model.specs.declared.value.Value.{Value}
use Rattle.entry_model.specs.Datum.{Datum, fields, datum, Members, members_of}

abbrev pub members_seen : List (List ℕ × Value) → Members
members_seen entries = members_of (map (λ entry. (entry.0, datum entry.1)) entries)

abbrev pub map_of : List (List ℕ × Value) → Datum
map_of entries = fields (members_seen entries)
