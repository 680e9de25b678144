-- A map without members.
use Rattle.std.proofs.Common.{◌≡◌, [], ap, ◌∙◌}
use Rattle.entry_model.specs.ByName.{ByName}
use Rattle.entry_model.specs.declared.value.Value.{Value}
use Rattle.entry_model.specs.declared.value.Value.TheVariants.{Map}
use Rattle.entry_model.specs.Datum.{datum, fields, no_members}
use Rattle.entry_model.proofs.Data.{datum_map}
use Rattle.field_paths.specs.MapOf.{map_of}

pub nothing_seen : (members : ByName Value) → members.entries ≡ [] → datum (Map members) ≡ fields no_members
nothing_seen members e = datum_map members ∙ ap map_of e
