-- The value that an operand in memory stands for.
use Rattle.std.specs.Prelude.{map}
use Rattle.entry_model.specs.Datum.{Datum, null, boolean, int, text, list, fields, datum, items_of}
use Rattle.field_paths.specs.MapOf.{members_seen}
use Rattle.expr_lang.specs.declared.kinds.Operand.{Operand}
use Rattle.expr_lang.specs.declared.kinds.Operand.TheVariants as operand

abbrev pub seen_as : Operand → Datum
seen_as operand.Null = null
seen_as (operand.Bool b) = boolean b
seen_as (operand.Int z) = int z
seen_as (operand.Text bytes) = text bytes.now
seen_as (operand.List values) = list (items_of (map datum values.now.items))
seen_as (operand.Map members) = fields (members_seen members.now.entries)
