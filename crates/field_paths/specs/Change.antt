-- An entry with another value at one place, and without the value at one place. All else stays.
use Rattle.std.specs.Prelude.{ℕ, List, [], ◌∷◌, Option, None, Some, option_and_then, option_map, unwrap_or}
use Rattle.entry_model.specs.Datum.{Datum, null, boolean, int, text, list, fields, Members, no_members}
use Rattle.entry_model.specs.LogRecord.{LogRecord, members_in}
use Rattle.field_paths.specs.declared.path.Root.{Root}
use Rattle.field_paths.specs.declared.path.Root.TheVariants.{Body, Attributes, Resource}
use Rattle.field_paths.specs.Members.{member_at, with_member, without_member}
use Rattle.field_paths.specs.Place.{Place}
use Rattle.field_paths.specs.ValueAt.{root_value}

-- the members of a value that a member can be put into: a null counts as an empty map
abbrev pub room_in : Datum → Option Members
room_in null = Some no_members
room_in (boolean b) = None
room_in (int z) = None
room_in (text bytes) = None
room_in (list items) = None
room_in (fields members) = Some members

-- what is at a name on the way down: a null where nothing is
abbrev pub on_the_way : List ℕ → Members → Datum
on_the_way name members = unwrap_or (member_at name members) null

-- `target` with `value` down the names; none where what is on the way is no map
abbrev pub with_value : List (List ℕ) → Datum → Datum → Option Datum
with_value [] value target = Some value
with_value (name ∷ names) value target = option_and_then
    (λ members. option_map (λ changed. fields (with_member name changed members)) (with_value names value (on_the_way name members)))
    (room_in target)

-- an entry made of the members of a value; none where the value is no map
abbrev pub of_map : Datum → (Members → LogRecord) → Option LogRecord
of_map null made = None
of_map (boolean b) made = None
of_map (int z) made = None
of_map (text bytes) made = None
of_map (list items) made = None
of_map (fields members) made = Some (made members)

-- the entry with this root, where the attributes and the resource are maps
abbrev pub with_root : Root → Datum → LogRecord → Option LogRecord
with_root Body value entry = Some (record entry { body = value })
with_root Attributes value entry = of_map value (λ members. record entry { attributes = members })
with_root Resource value entry = of_map value (λ members. record entry { resource = members })

-- the entry with `value` at the place; none where something on the way is no map, or a root would be none
abbrev pub set_at : Place → Datum → LogRecord → Option LogRecord
set_at place value entry = option_and_then
    (λ root. with_root place.root root entry)
    (with_value place.names value (root_value place.root entry))

-- `target` without the value down the names
abbrev pub without_value : List ℕ → List (List ℕ) → Datum → Datum
without_value name [] target = fields (without_member name (members_in target))
without_value name (next ∷ names) target =
    fields (with_member name (without_value next names (on_the_way name (members_in target))) (members_in target))

-- the root with nothing in it
abbrev pub empty_root : Root → LogRecord → LogRecord
empty_root Body entry = record entry { body = null }
empty_root Attributes entry = record entry { attributes = no_members }
empty_root Resource entry = record entry { resource = no_members }

-- the root as an empty map
abbrev pub with_empty_map : Root → LogRecord → LogRecord
with_empty_map Body entry = record entry { body = fields no_members }
with_empty_map Attributes entry = record entry { attributes = no_members }
with_empty_map Resource entry = record entry { resource = no_members }

abbrev pub root_without : Root → List ℕ → List (List ℕ) → LogRecord → LogRecord
root_without Body name names entry = record entry { body = without_value name names entry.body }
root_without Attributes name names entry = record entry { attributes = members_in (without_value name names (fields entry.attributes)) }
root_without Resource name names entry = record entry { resource = members_in (without_value name names (fields entry.resource)) }

abbrev pub taken : Root → List (List ℕ) → LogRecord → LogRecord
taken root [] entry = empty_root root entry
taken root (name ∷ names) entry = root_without root name names entry

-- the entry without the value at the place, where there is one
abbrev pub take_at : Place → LogRecord → LogRecord
take_at place entry = taken place.root place.names entry
