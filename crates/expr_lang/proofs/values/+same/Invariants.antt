use Rattle.std.proofs.Common.{◌≡◌, map, drop}
use Rattle.std.specs.Slice.Iter.{iter_rest}
use Rattle.entry_model.specs.Datum.{datum, items_of}
use Rattle.field_paths.specs.MapOf.{members_seen}
use Rattle.expr_lang.specs.Equality.{same_items, same_members}
use Rattle.expr_lang.proofs.values.+same.Given as goal

abbrev pub invariant-are_same_lists-loop-index : goal.invariant-are_same_lists-loop-index
invariant-are_same_lists-loop-index l =
    same_items (items_of (map datum l.one.items)) (items_of (map datum l.other.items))
    ≡ same_items (items_of (map datum (drop l.index l.one.items))) (items_of (map datum (drop l.index l.other.items)))

abbrev pub invariant-are_same_maps-loop-key : goal.invariant-are_same_maps-loop-key
invariant-are_same_maps-loop-key l =
    same_members (members_seen l.one.entries) (members_seen l.other.entries) ≡ same_members (members_seen (drop l.key-index l.key-items)) (members_seen (iter_rest l.rest))
