-- A copied value beside the JSON value that it was made of.
use Rattle.std.proofs.Common.{◌≡◌, ℕ, List, [], ◌∷◌, ◌++◌, map, Ordering, Less, Equal, Greater, refl, sym, ap, ◌∙◌, string_bytes, string_cmp, nat_cmp}
use Rattle.std.specs.BTreeMap.{insert_entry}
use Rattle.std.specs.Cmp.Lexicographic.{slice_cmp}
use Rattle.std.specs.List.Sorted.{IsStrictlySortedBy}
use Rattle.std.specs.Map.{keys_of}
use Rattle.std.specs.Ordering.{match_ordering}
use Rattle.serde_json.proofs.Views.{Entry, put_last}
use Rattle.serde_json.specs.Data as json
use Rattle.serde_json.specs.View.{view, items_view, members_view}
use Rattle.serde_json.specs.declared.value.Value as json_value
use Rattle.entry_model.specs.Datum.{Datum, Members, no_members, member, datum, items_of, members_of}
use Rattle.entry_model.specs.declared.value.Value.{Value}
use Rattle.settings_text.specs.ValueData.{value_data, items_data, members_data}

pub items_copied : (vs : List json_value.Value) → items_of (map (λ v. value_data (view v)) vs) ≡ items_data (items_view vs)
items_copied [] = refl
items_copied (v ∷ vs) = rw (items_copied vs) refl

abbrev Field : Type 0
Field = List ℕ × Value

abbrev fields_view : List Field → Members
fields_view fields = members_of (map (λ field. (field.0, datum field.1)) fields)

-- the members, with a datum at a key
abbrev put : List ℕ → Datum → Members → Members
put key d no_members = member key d no_members
put key d (member k e ms) = match_ordering (slice_cmp nat_cmp key k) (member key d (member k e ms)) (member k d ms) (member k e (put key d ms))

seen : (o : Ordering) (a b c : List Field) → fields_view (match_ordering o a b c) ≡ match_ordering o (fields_view a) (fields_view b) (fields_view c)
seen Less a b c = refl
seen Equal a b c = refl
seen Greater a b c = refl

inserted : (fields : List Field) (key : List ℕ) (value : Value) → fields_view (insert_entry (slice_cmp nat_cmp) fields key value) ≡ put key (datum value) (fields_view fields)
inserted [] key value = refl
inserted (f ∷ fields) key value = seen (slice_cmp nat_cmp key f.0) _ _ _ ∙ rw (inserted fields key value) refl

turned : (o : Ordering) (a b c : json.Members) → members_data (match_ordering o a b c) ≡ match_ordering o (members_data a) (members_data b) (members_data c)
turned Less a b c = refl
turned Equal a b c = refl
turned Greater a b c = refl

put_turned : (key : List ℕ) (d : json.Data) (ms : json.Members) → members_data (json.put key d ms) ≡ put key (value_data d) (members_data ms)
put_turned key d json.no_members = refl
put_turned key d (json.member k e ms) = turned (slice_cmp nat_cmp key k) _ _ _ ∙ rw (put_turned key d ms) refl

-- one member more
pub one_more : (fields new : List Field) (done more : List Entry) (e : Entry) (key : List ℕ) (value : Value)
    → new ≡ insert_entry (slice_cmp nat_cmp) fields key value → key ≡ string_bytes e.0 → datum value ≡ value_data (view e.1)
    → IsStrictlySortedBy string_cmp (keys_of (done ++ e ∷ more))
    → fields_view fields ≡ members_data (members_view done) → fields_view new ≡ members_data (members_view (done ++ e ∷ []))
one_more fields new done more e key value is_new is_key is_value sorted so_far =
    ap fields_view is_new ∙ inserted fields key value ∙ rw (so_far, is_value, is_key) (sym (put_turned (string_bytes e.0) (view e.1) (members_view done)) ∙ ap members_data (put_last done e more sorted))
