-- The kinds of values that have no members, or no room for them.
use Rattle.std.proofs.Common.{◌≡◌, ℕ, List, ◌∙◌, sym, refl, None}
use Rattle.entry_model.specs.ByName.{ByName}
use Rattle.entry_model.specs.declared.value.Value.{Value, roll-Value, out-Value, roll-out-Value, map-Value}
use Rattle.entry_model.specs.declared.value.Value.TheOpen.{Value-F}
use Rattle.entry_model.specs.declared.value.Value.TheVariants as value
use Rattle.entry_model.specs.declared.value.Value.TheFolds.{fold_out-Value}
use Rattle.entry_model.specs.Datum.{Datum, datum, datum_step, no_members}
use Rattle.entry_model.specs.LogRecord.{members_in}
use Rattle.field_paths.specs.Change.{room_in}

-- the datum of a value whose first layer is this
abbrev layer_datum : Value-F Value → Datum
layer_datum layer = datum_step (map-Value Value Datum datum layer)

layer_without : (layer : Value-F Value) → ((members : ByName Value) → roll-Value layer ≡ value.Map members → ⊥) → members_in (layer_datum layer) ≡ no_members
layer_without Value-F.Null other = refl
layer_without (Value-F.Bool b) other = refl
layer_without (Value-F.Int z) other = refl
layer_without (Value-F.Text bytes) other = refl
layer_without (Value-F.List values) other = refl
layer_without (Value-F.Map members) other = absurd (other members (value.rolls-Map members))

-- a value that is no map has no members
pub no_members_in : (v : Value) → ((members : ByName Value) → v ≡ value.Map members → ⊥) → members_in (datum v) ≡ no_members
no_members_in v other = rw (fold_out-Value Datum datum_step v) (layer_without (out-Value v) (λ members e. other members (sym (roll-out-Value v) ∙ e)))

layer_full : (layer : Value-F Value) → ((members : ByName Value) → roll-Value layer ≡ value.Map members → ⊥) → (roll-Value layer ≡ value.Null → ⊥) → room_in (layer_datum layer) ≡ None
layer_full Value-F.Null other some = absurd (some value.rolls-Null)
layer_full (Value-F.Bool b) other some = refl
layer_full (Value-F.Int z) other some = refl
layer_full (Value-F.Text bytes) other some = refl
layer_full (Value-F.List values) other some = refl
layer_full (Value-F.Map members) other some = absurd (other members (value.rolls-Map members))

-- a value that is neither a map nor null has no room for a member
pub no_room_in : (v : Value) → ((members : ByName Value) → v ≡ value.Map members → ⊥) → (v ≡ value.Null → ⊥) → room_in (datum v) ≡ None
no_room_in v other some = rw (fold_out-Value Datum datum_step v) (layer_full (out-Value v) (λ members e. other members (sym (roll-out-Value v) ∙ e)) (λ e. some (sym (roll-out-Value v) ∙ e)))
