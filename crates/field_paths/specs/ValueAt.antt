-- The value at a place. A member of a value that is no map is missing.
use Rattle.std.specs.Prelude.{ℕ, List, [], ◌∷◌, Option, Some, option_and_then}
use Rattle.entry_model.specs.Datum.{Datum, fields}
use Rattle.entry_model.specs.LogRecord.{LogRecord, members_in}
use Rattle.field_paths.specs.declared.path.Root.{Root}
use Rattle.field_paths.specs.declared.path.Root.TheVariants.{Body, Attributes, Resource}
use Rattle.field_paths.specs.Members.{member_at}
use Rattle.field_paths.specs.Place.{Place}

-- the value down the names from a value
abbrev pub value_at : List (List ℕ) → Datum → Option Datum
value_at [] value = Some value
value_at (name ∷ names) value = option_and_then (value_at names) (member_at name (members_in value))

abbrev pub root_value : Root → LogRecord → Datum
root_value Body entry = entry.body
root_value Attributes entry = fields entry.attributes
root_value Resource entry = fields entry.resource

abbrev pub datum_at : Place → LogRecord → Option Datum
datum_at place entry = value_at place.names (root_value place.root entry)
