-- The maps on the way down to a place, whose members ascend, as those of each map in memory do.
use Rattle.std.specs.Prelude.{ℕ, List, [], ◌∷◌, None, ⊤}
use Rattle.entry_model.specs.Datum.{Datum}
use Rattle.entry_model.specs.Lawful.{KeysAscend}
use Rattle.entry_model.specs.LogRecord.{LogRecord, members_in}
use Rattle.field_paths.specs.Change.{on_the_way}
use Rattle.field_paths.specs.Place.{Place}
use Rattle.field_paths.specs.ValueAt.{root_value}

abbrev pub AscendDown : List (List ℕ) → Datum → Type 0
AscendDown [] target = ⊤
AscendDown (name ∷ names) target = KeysAscend None (members_in target) × AscendDown names (on_the_way name (members_in target))

-- each map on the way to the place has its members in ascending byte order of their names
abbrev pub IsInOrder : Place → LogRecord → Type 0
IsInOrder place entry = AscendDown place.names (root_value place.root entry)
