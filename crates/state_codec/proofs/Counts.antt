-- How many values and members there are, and in which order the keys stand.
use Rattle.std.proofs.Common.{◌≡◌, ℕ, List, [], ◌∷◌, length, Some, None, refl, sym, arith}
use Rattle.std.specs.List.{AllByRecursion}
use Rattle.std.specs.List.Sorted.{IsStrictlySortedBy}
use Rattle.std.specs.Map.{keys_of}
use Rattle.std.proofs.lemmas.Map.Keys.{sorted_head, sorted_tail}
use Rattle.std.specs.declared.cmp.Ordering.TheVariants.{Less}
use Rattle.entry_model.specs.Datum.{Datum, items_of, members_of, fields, is_map_datum, null, boolean, int, text, list}
use Rattle.entry_model.specs.LogRecord.{members_in}
use Rattle.entry_model.specs.Seen.{seen}
use Rattle.entry_model.specs.declared.value.Value.{Value}
use Rattle.state_codec.specs.Spelling.{item_count, member_count}
use Rattle.entry_model.specs.Lawful.{KeysAscend}
use Rattle.state_codec.proofs.Keys.{cmp}
use Rattle.std.proofs.Common.{true, true≢false}

pub item_count-items_of : (ds : List Datum) → item_count (items_of ds) ≡ length ds
item_count-items_of [] = refl
item_count-items_of (d ∷ ds) = let more = item_count-items_of ds in omega (arith, more)

pub member_count-members_of : (ms : List (List ℕ × Datum)) → member_count (members_of ms) ≡ length ms
member_count-members_of [] = refl
member_count-members_of (m ∷ ms) = let more = member_count-members_of ms in omega (arith, more)

pub length-seen : (es : List (List ℕ × Value)) → length (seen es) ≡ length es
length-seen [] = refl
length-seen (e ∷ es) = let more = length-seen es in omega (arith, more)

ascend_behind : (es : List (List ℕ × Value)) (before : List ℕ) → AllByRecursion (λ (k : List ℕ). cmp before k ≡ Less) (keys_of es) → IsStrictlySortedBy cmp (keys_of es)
    → KeysAscend (Some before) (members_of (seen es))
ascend_behind [] before below sorted = tt
ascend_behind (e ∷ es) before below sorted = (below.0, ascend_behind es e.0 (sorted_head cmp e.0 (keys_of es) sorted) (sorted_tail cmp e.0 (keys_of es) sorted))

pub keys_ascend : (es : List (List ℕ × Value)) → IsStrictlySortedBy cmp (keys_of es) → KeysAscend None (members_of (seen es))
keys_ascend [] sorted = tt
keys_ascend (e ∷ es) sorted = (tt, ascend_behind es e.0 (sorted_head cmp e.0 (keys_of es) sorted) (sorted_tail cmp e.0 (keys_of es) sorted))

pub is_fields : (d : Datum) → is_map_datum d ≡ true → d ≡ fields (members_in d)
is_fields null e = absurd (true≢false (sym e))
is_fields (boolean b) e = absurd (true≢false (sym e))
is_fields (int z) e = absurd (true≢false (sym e))
is_fields (text bytes) e = absurd (true≢false (sym e))
is_fields (list items) e = absurd (true≢false (sym e))
is_fields (fields inside) e = refl
