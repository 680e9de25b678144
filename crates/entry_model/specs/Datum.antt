-- What a value is: a tree whose maps have each key once, in ascending byte order.
use Rattle.std.specs.Prelude.{ℕ, ℤ, Bool, true, false, List, [], ◌∷◌}
use Rattle.entry_model.specs.declared.value.Value.{Value, fold-Value}
use Rattle.entry_model.specs.declared.value.Value.TheOpen.{Value-F}

mutual
  pub data Datum : Type 0 where
    null : Datum
    boolean : Bool → Datum
    int : ℤ → Datum
    text : List ℕ → Datum
    list : Items → Datum
    fields : Members → Datum

  pub data Items : Type 0 where
    no_items : Items
    item : Datum → Items → Items

  pub data Members : Type 0 where
    no_members : Members
    member : List ℕ → Datum → Members → Members

abbrev pub items_of : List Datum → Items
items_of [] = no_items
items_of (first ∷ rest) = item first (items_of rest)

abbrev pub members_of : List (List ℕ × Datum) → Members
members_of [] = no_members
members_of (first ∷ rest) = member first.0 first.1 (members_of rest)

-- one level, with each value inside already seen as its datum
abbrev pub datum_step : Value-F Datum → Datum
datum_step Value-F.Null = null
datum_step (Value-F.Bool b) = boolean b
datum_step (Value-F.Int z) = int z
datum_step (Value-F.Text bytes) = text bytes
datum_step (Value-F.List values) = list (items_of values.items)
datum_step (Value-F.Map members) = fields (members_of members.entries)

-- what a value is
abbrev pub datum : Value → Datum
datum = fold-Value Datum datum_step

abbrev pub is_map_datum : Datum → Bool
is_map_datum (fields _) = true
is_map_datum _ = false

abbrev pub is_map : Value → Bool
is_map value = is_map_datum (datum value)
