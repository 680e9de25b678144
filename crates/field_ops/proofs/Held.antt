-- A member of a copied map, and a value that is no map.
use Rattle.std.proofs.Common.{◌≡◌, ℕ, List, ◌∷◌, ◌∙◌, ap, sym, refl, option_map, Err}
use Rattle.std.specs.BTreeMap.{insert_entry, is_at}
use Rattle.entry_model.specs.ByName.{ByName}
use Rattle.std.specs.Map.{lookup, remove_entry}
use Rattle.std.specs.Ordering.{nat_cmp}
use Rattle.std.specs.Cmp.Lexicographic.{slice_cmp}
use Rattle.entry_model.specs.declared.value.Value.{Value, roll-Value, out-Value, roll-out-Value, map-Value}
use Rattle.entry_model.specs.declared.value.Value.TheOpen.{Value-F}
use Rattle.entry_model.specs.declared.value.Value.TheVariants as value
use Rattle.entry_model.specs.declared.value.Value.TheFolds.{fold_out-Value}
use Rattle.entry_model.specs.Datum.{Datum, datum, datum_step, fields, Members}
use Rattle.entry_model.specs.LogRecord.{members_in}
use Rattle.entry_model.proofs.Data.{datum_map}
use Rattle.field_paths.specs.MapOf.{members_seen}
use Rattle.field_paths.specs.Members.{member_at, without_member}
use Rattle.field_paths.proofs.Entries.{member_at-seen, with_member-seen, without_member-seen}
use Rattle.field_ops.specs.Outcome.{Outcome}
use Rattle.field_ops.specs.Rows.{with_members, raised_in, where_a_map}
use Rattle.field_ops.specs.declared.fault.FieldFault.TheVariants.{NotAMap}

-- the members of what a map in memory is
pub members_held : (holder : Datum) (members : ByName Value) → datum (value.Map members) ≡ holder → members_in holder ≡ members_seen members.entries
members_held holder members e = ap members_in (sym e ∙ datum_map members)

pub held : (holder : Datum) (members : ByName Value) (name : List ℕ) → datum (value.Map members) ≡ holder
    → member_at name (members_in holder) ≡ option_map datum (lookup (is_at (slice_cmp nat_cmp name)) members.entries)
held holder members name e = ap (member_at name) (members_held holder members e) ∙ member_at-seen name members.entries

layer_refused : (layer : Value-F Value) (then_so : Members → Outcome) → ((members : ByName Value) → roll-Value layer ≡ value.Map members → ⊥)
    → where_a_map (datum_step (map-Value Value Datum datum layer)) then_so ≡ Err NotAMap
layer_refused Value-F.Null then_so other = refl
layer_refused (Value-F.Bool b) then_so other = refl
layer_refused (Value-F.Int z) then_so other = refl
layer_refused (Value-F.Text bytes) then_so other = refl
layer_refused (Value-F.List values) then_so other = refl
layer_refused (Value-F.Map members) then_so other = absurd (other members (value.rolls-Map members))

pub no_map_refused : (v : Value) (then_so : Members → Outcome) → ((members : ByName Value) → v ≡ value.Map members → ⊥) → where_a_map (datum v) then_so ≡ Err NotAMap
no_map_refused v then_so other = rw (fold_out-Value Datum datum_step v) (layer_refused (out-Value v) then_so (λ members e. other members (sym (roll-out-Value v) ∙ e)))

-- one member more is raised
pub one_raised : (rest es new all start : List (List ℕ × Value)) (left : List (List ℕ × Value)) (name : List ℕ) (v : Value)
    → left ≡ (name, v) ∷ rest → new ≡ insert_entry (slice_cmp nat_cmp) es name v
    → with_members (members_seen left) (members_seen es) ≡ with_members (members_seen all) (members_seen start)
    → with_members (members_seen rest) (members_seen new) ≡ with_members (members_seen all) (members_seen start)
one_raised rest es new all start left name v l i h =
    ap (with_members (members_seen rest)) (ap members_seen i ∙ sym (with_member-seen name v es))
    ∙ ap (λ (m : List (List ℕ × Value)). with_members (members_seen m) (members_seen es)) (sym l) ∙ h

-- the raised members, in the map without the member that held them
pub raised_held : (holder : Datum) (members removed new raised : ByName Value) (name : List ℕ) → datum (value.Map members) ≡ holder
    → removed.entries ≡ remove_entry (is_at (slice_cmp nat_cmp name)) members.entries
    → members_seen new.entries ≡ with_members (members_seen raised.entries) (members_seen removed.entries)
    → datum (value.Map new) ≡ raised_in name holder (members_seen raised.entries)
raised_held holder members removed new raised name e r n =
    datum_map new ∙ ap fields (n
    ∙ ap (with_members (members_seen raised.entries)) (ap members_seen r ∙ sym (without_member-seen name members.entries) ∙ ap (without_member name) (sym (members_held holder members e))))
