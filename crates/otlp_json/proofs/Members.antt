-- The members of a record that are there only where it has something to say.
use Rattle.std.proofs.Common.{◌≡◌, ℕ, List, [], ◌∷◌, ◌++◌, ◌∙◌, sym, refl, codes}
use Rattle.entry_model.specs.ByName.{ByName}
use Rattle.entry_model.specs.declared.value.Value.{Value, roll-Value, out-Value, roll-out-Value, map-Value}
use Rattle.entry_model.specs.declared.value.Value.TheOpen.{Value-F}
use Rattle.entry_model.specs.declared.value.Value.TheVariants as value
use Rattle.entry_model.specs.declared.value.Value.TheFolds.{fold_out-Value}
use Rattle.entry_model.specs.Datum.{Datum, datum, datum_step, no_members}
use Rattle.entry_model.specs.LogRecord.{members_in}
use Rattle.otlp_json.specs.Escaped.{escaped}
use Rattle.otlp_json.specs.RecordText.{body_text, severity_name_text}
use Rattle.otlp_json.specs.ValueText.{value_text}

pub named : (name : List ℕ) → (name ≡ [] → ⊥) → severity_name_text name ≡ codes ",\"severityText\":\"" ++ escaped name ++ codes "\""
named [] some = absurd (some refl)
named (x ∷ xs) some = refl

-- the datum of a value whose first layer is this
abbrev layer_datum : Value-F Value → Datum
layer_datum layer = datum_step (map-Value Value Datum datum layer)

layer_without : (layer : Value-F Value) → ((members : ByName Value) → roll-Value layer ≡ value.Map members → ⊥) → members_in (layer_datum layer) ≡ no_members
layer_without Value-F.Null other = refl
layer_without (Value-F.Bool b) other = refl
layer_without (Value-F.Int z) other = refl
layer_without (Value-F.Text bytes) other = refl
layer_without (Value-F.List values) other = refl
layer_without (Value-F.Map members) other = absurd (other members (value.rolls-Map members))

-- a value that is no map has no members
pub no_members_in : (attributes : Value) → ((members : ByName Value) → attributes ≡ value.Map members → ⊥) → members_in (datum attributes) ≡ no_members
no_members_in attributes other = rw (fold_out-Value Datum datum_step attributes) (layer_without (out-Value attributes) (λ members e. other members (sym (roll-out-Value attributes) ∙ e)))

layer_body : (layer : Value-F Value) → (roll-Value layer ≡ value.Null → ⊥) → body_text (layer_datum layer) ≡ codes ",\"body\":" ++ value_text (layer_datum layer)
layer_body Value-F.Null some = absurd (some value.rolls-Null)
layer_body (Value-F.Bool b) some = refl
layer_body (Value-F.Int z) some = refl
layer_body (Value-F.Text bytes) some = refl
layer_body (Value-F.List values) some = refl
layer_body (Value-F.Map members) some = refl

pub body_there : (body : Value) → (body ≡ value.Null → ⊥) → body_text (datum body) ≡ codes ",\"body\":" ++ value_text (datum body)
body_there body some = rw (fold_out-Value Datum datum_step body) (layer_body (out-Value body) (λ e. some (sym (roll-out-Value body) ∙ e)))
