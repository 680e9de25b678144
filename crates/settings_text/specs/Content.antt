-- The members of a map in memory.
use Rattle.std.specs.Prelude.{ℕ, List, map}
use Rattle.entry_model.specs.ByName.{ByName}
use Rattle.entry_model.specs.Datum.{Members, datum, members_of}
use Rattle.entry_model.specs.declared.value.Value.{Value}

abbrev pub members_in_memory : ByName Value → Members
members_in_memory fields = members_of (map (λ field. (field.0, datum field.1)) fields.entries)
