-- The datum of each kind of value.
use Rattle.std.proofs.Common.{◌≡◌, ℕ, ℤ, List, ◌∙◌, ap, sym, map, Vec, Global}
use Rattle.entry_model.specs.ByName.{ByName}
use Rattle.entry_model.specs.declared.value.Value.{Value}
use Rattle.entry_model.specs.declared.value.Value.TheOpen.{Value-F}
use Rattle.entry_model.specs.declared.value.Value.TheVariants as value
use Rattle.entry_model.specs.declared.value.Value.TheFolds.{fold-roll-Value}
use Rattle.entry_model.specs.Datum.{Datum, null, boolean, int, text, list, fields, datum, datum_step, items_of, members_of}
use Rattle.std.proofs.Common.{Bool}

pub datum_null : datum value.Null ≡ null
datum_null = ap datum (sym value.rolls-Null) ∙ fold-roll-Value Datum datum_step Value-F.Null

pub datum_bool : (b : Bool) → datum (value.Bool b) ≡ boolean b
datum_bool b = ap datum (sym (value.rolls-Bool b)) ∙ fold-roll-Value Datum datum_step (Value-F.Bool b)

pub datum_int : (z : ℤ) → datum (value.Int z) ≡ int z
datum_int z = ap datum (sym (value.rolls-Int z)) ∙ fold-roll-Value Datum datum_step (Value-F.Int z)

pub datum_text : (bytes : List ℕ) → datum (value.Text bytes) ≡ text bytes
datum_text bytes = ap datum (sym (value.rolls-Text bytes)) ∙ fold-roll-Value Datum datum_step (Value-F.Text bytes)

pub datum_list : (values : Vec Value Global) → datum (value.List values) ≡ list (items_of (map datum values.items))
datum_list values = ap datum (sym (value.rolls-List values)) ∙ fold-roll-Value Datum datum_step (Value-F.List values)

pub datum_map : (members : ByName Value) → datum (value.Map members) ≡ fields (members_of (map (λ member. (member.0, datum member.1)) members.entries))
datum_map members = ap datum (sym (value.rolls-Map members)) ∙ fold-roll-Value Datum datum_step (Value-F.Map members)
