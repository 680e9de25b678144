-- The calls on a map in memory, seen on the members.
use Rattle.std.proofs.Common.{◌≡◌, ℕ, List, [], ◌∷◌, ◌∙◌, ap, sym, refl, cond, None, Some, option_map}
use Rattle.std.specs.Map.{lookup, keys_of, remove_entry, set_value}
use Rattle.std.specs.BTreeMap.{insert_entry, is_at}
use Rattle.std.specs.Ordering.{match_ordering, is_eq, nat_cmp}
use Rattle.std.specs.declared.cmp.Ordering.{Ordering}
use Rattle.std.specs.declared.cmp.Ordering.TheVariants.{Less, Equal, Greater}
use Rattle.std.specs.Cmp.Lexicographic.{slice_cmp, nat_list_cmp_total}
use Rattle.std.specs.List.Sorted.{IsStrictlySortedBy}
use Rattle.std.proofs.lemmas.Map.{lookup-none}
use Rattle.std.proofs.lemmas.Map.Entries.{none_below_head}
use Rattle.std.proofs.lemmas.Map.Keys.{sorted_tail}
use Rattle.entry_model.specs.declared.value.Value.{Value}
use Rattle.entry_model.specs.Datum.{datum, member}
use Rattle.field_paths.specs.Members.{member_at, with_member, without_member}
use Rattle.field_paths.specs.MapOf.{members_seen}

abbrev Entries : Type 0
Entries = List (List ℕ × Value)

pub member_at-seen : (name : List ℕ) (es : List (List ℕ × Value)) → member_at name (members_seen es) ≡ option_map datum (lookup (is_at (slice_cmp nat_cmp name)) es)
member_at-seen name [] = refl
member_at-seen name (e ∷ es) = by (slice_cmp nat_cmp name e.0) (member_at-seen name es)
  where
    by : (r : Ordering) → member_at name (members_seen es) ≡ option_map datum (lookup (is_at (slice_cmp nat_cmp name)) es)
        → cond (is_eq r) (Some (datum e.1)) (member_at name (members_seen es)) ≡ option_map datum (cond (is_eq r) (Some e.1) (lookup (is_at (slice_cmp nat_cmp name)) es))
    by Less h = h
    by Equal h = refl
    by Greater h = h

pub with_member-seen : (name : List ℕ) (value : Value) (es : List (List ℕ × Value)) → with_member name (datum value) (members_seen es) ≡ members_seen (insert_entry (slice_cmp nat_cmp) es name value)
with_member-seen name value [] = refl
with_member-seen name value (e ∷ es) = by (slice_cmp nat_cmp name e.0) (with_member-seen name value es)
  where
    by : (r : Ordering) → with_member name (datum value) (members_seen es) ≡ members_seen (insert_entry (slice_cmp nat_cmp) es name value)
        → match_ordering r (member name (datum value) (member e.0 (datum e.1) (members_seen es))) (member e.0 (datum value) (members_seen es)) (member e.0 (datum e.1) (with_member name (datum value) (members_seen es)))
        ≡ members_seen (match_ordering r ((name, value) ∷ e ∷ es) ((e.0, value) ∷ es) (e ∷ insert_entry (slice_cmp nat_cmp) es name value))
    by Less h = refl
    by Equal h = refl
    by Greater h = ap (member e.0 (datum e.1)) h

pub without_member-seen : (name : List ℕ) (es : List (List ℕ × Value)) → without_member name (members_seen es) ≡ members_seen (remove_entry (is_at (slice_cmp nat_cmp name)) es)
without_member-seen name [] = refl
without_member-seen name (e ∷ es) = by (slice_cmp nat_cmp name e.0) (without_member-seen name es)
  where
    by : (r : Ordering) → without_member name (members_seen es) ≡ members_seen (remove_entry (is_at (slice_cmp nat_cmp name)) es)
        → cond (is_eq r) (members_seen es) (member e.0 (datum e.1) (without_member name (members_seen es)))
        ≡ members_seen (cond (is_eq r) es (e ∷ remove_entry (is_at (slice_cmp nat_cmp name)) es))
    by Less h = ap (member e.0 (datum e.1)) h
    by Equal h = refl
    by Greater h = ap (member e.0 (datum e.1)) h

-- in a map, whose names ascend, a value that is put where one is takes its place
pub set_value_inserts : (name : List ℕ) (value old : Value) (es : List (List ℕ × Value)) → IsStrictlySortedBy (slice_cmp nat_cmp) (keys_of es)
    → lookup (is_at (slice_cmp nat_cmp name)) es ≡ Some old → set_value (is_at (slice_cmp nat_cmp name)) es value ≡ insert_entry (slice_cmp nat_cmp) es name value
set_value_inserts name value old [] s h = absurd (cc h)
set_value_inserts name value old (e ∷ es) s h = by (slice_cmp nat_cmp name e.0) refl h (set_value_inserts name value old es (sorted_tail (slice_cmp nat_cmp) e.0 (keys_of es) s))
  where
    by : (r : Ordering) → slice_cmp nat_cmp name e.0 ≡ r → cond (is_eq r) (Some e.1) (lookup (is_at (slice_cmp nat_cmp name)) es) ≡ Some old
        → (lookup (is_at (slice_cmp nat_cmp name)) es ≡ Some old → set_value (is_at (slice_cmp nat_cmp name)) es value ≡ insert_entry (slice_cmp nat_cmp) es name value)
        → cond (is_eq r) ((e.0, value) ∷ es) (e ∷ set_value (is_at (slice_cmp nat_cmp name)) es value)
        ≡ match_ordering r ((name, value) ∷ e ∷ es) ((e.0, value) ∷ es) (e ∷ insert_entry (slice_cmp nat_cmp) es name value)
    by Less p h rest = let none : lookup (is_at (slice_cmp nat_cmp name)) (e ∷ es) ≡ None = lookup-none (is_at (slice_cmp nat_cmp name)) (e ∷ es) (none_below_head nat_list_cmp_total name e es s p) in
        let found : lookup (is_at (slice_cmp nat_cmp name)) (e ∷ es) ≡ Some old = rw p h in
        absurd (cc (none, found))
    by Equal p h rest = refl
    by Greater p h rest = ap (λ (l : List (List ℕ × Value)). e ∷ l) (rest h)

-- what a map has at a name, after a value was put where one is
pub with_member-set : (name : List ℕ) (value old : Value) (es : List (List ℕ × Value)) → IsStrictlySortedBy (slice_cmp nat_cmp) (keys_of es)
    → lookup (is_at (slice_cmp nat_cmp name)) es ≡ Some old → with_member name (datum value) (members_seen es) ≡ members_seen (set_value (is_at (slice_cmp nat_cmp name)) es value)
with_member-set name value old es s h = with_member-seen name value es ∙ ap members_seen (sym (set_value_inserts name value old es s h))
