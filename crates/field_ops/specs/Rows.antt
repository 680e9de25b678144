-- What each field operator makes of an entry.
use Rattle.std.specs.Prelude.{ℕ, List, [], ◌∷◌, ◌++◌, Option, None, Some, Ok, Err, unwrap_or}
use Rattle.entry_model.specs.Datum.{Datum, null, boolean, int, text, list, fields, Members, no_members, member}
use Rattle.entry_model.specs.LogRecord.{LogRecord, members_in}
use Rattle.field_paths.specs.Change.{set_at, take_at, with_empty_map}
use Rattle.field_paths.specs.Members.{member_at, with_member, without_member}
use Rattle.field_paths.specs.Place.{Place}
use Rattle.field_paths.specs.ValueAt.{datum_at}
use Rattle.field_ops.specs.Outcome.{Outcome, where_found, or_refused}
use Rattle.field_ops.specs.declared.fault.FieldFault.TheVariants.{NotAMap}

-- the value at `from` is taken, and put at `to`
abbrev pub moved : Place → Place → LogRecord → Outcome
moved from to entry = where_found (datum_at from entry) (λ value. or_refused (set_at to value (take_at from entry)))

-- the value at `from` is put at `to` too
abbrev pub copied : Place → Place → LogRecord → Outcome
copied from to entry = where_found (datum_at from entry) (λ value. or_refused (set_at to value entry))

abbrev pub added : Place → Datum → LogRecord → Outcome
added field value entry = or_refused (set_at field value entry)

abbrev pub removed : Place → LogRecord → Outcome
removed field entry = where_found (datum_at field entry) (λ _. Ok (take_at field entry))

-- the members with those of `raised` put among them: where a name is in both, the raised one stands
abbrev pub with_members : Members → Members → Members
with_members no_members members = members
with_members (member name value raised) members = with_members raised (with_member name value members)

-- the place of a member of the value at another place
abbrev pub member_of : Place → List ℕ → Place
member_of parent name = record { root = parent.root; names = parent.names ++ name ∷ [] }

-- the map with the members of its member `name` put in that member's place
abbrev pub raised_in : List ℕ → Datum → Members → Datum
raised_in name holder raised = fields (with_members raised (without_member name (members_in holder)))

-- what becomes of the members of a value, or `NotAMap` where it is no map
abbrev pub where_a_map : Datum → (Members → Outcome) → Outcome
where_a_map null then_so = Err NotAMap
where_a_map (boolean b) then_so = Err NotAMap
where_a_map (int z) then_so = Err NotAMap
where_a_map (text bytes) then_so = Err NotAMap
where_a_map (list items) then_so = Err NotAMap
where_a_map (fields members) then_so = then_so members

-- the map at the member `name` of what is at `parent` gives its members to the map that held it
abbrev pub flattened : Place → List ℕ → LogRecord → Outcome
flattened parent name entry =
    where_found (datum_at parent entry) (λ holder.
    where_found (member_at name (members_in holder)) (λ value.
    where_a_map value (λ raised.
    or_refused (set_at parent (raised_in name holder raised) entry))))

-- the members put among those of the map that is there, each in the place of one with its name, or as a map of their own
abbrev pub joined : Members → Option Datum → Datum
joined members None = fields members
joined members (Some null) = fields members
joined members (Some (boolean b)) = fields members
joined members (Some (int z)) = fields members
joined members (Some (text bytes)) = fields members
joined members (Some (list items)) = fields members
joined members (Some (fields there)) = fields (with_members members there)

-- the members are put into the map at the place
abbrev pub merged : Place → Members → LogRecord → Outcome
merged field members entry = added field (joined members (datum_at field entry)) entry

-- each root of a listed field, as an empty map
abbrev pub emptied : List Place → LogRecord → LogRecord
emptied [] entry = entry
emptied (field ∷ listed) entry = emptied listed (with_empty_map field.root entry)

-- the entry with a value where there is one
abbrev pub with_found : Place → Option Datum → LogRecord → LogRecord
with_found field None entry = entry
with_found field (Some value) entry = unwrap_or (set_at field value entry) entry

-- the entry with the values that `whole` has at the listed fields, put in one after another
abbrev pub with_listed : List Place → LogRecord → LogRecord → LogRecord
with_listed [] whole entry = entry
with_listed (field ∷ listed) whole entry = with_listed listed whole (with_found field (datum_at field whole) entry)

abbrev pub retained : List Place → LogRecord → LogRecord
retained listed entry = with_listed listed entry (emptied listed entry)
