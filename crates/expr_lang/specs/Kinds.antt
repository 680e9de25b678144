-- What the operators make of values, by their kinds. None: they don't take values of these kinds.
use Rattle.std.specs.Prelude.{ℕ, Bool, false, ◌||◌, not, List, [], ◌∷◌, Option, None, Some, option_map, is_some, nat_eq, int_lt}
use Rattle.std.specs.List.{starts_with, ends_with}
use Rattle.std.specs.Ordering.{is_lt, nat_cmp}
use Rattle.std.specs.Cmp.Lexicographic.{slice_cmp}
use Rattle.entry_model.specs.Datum.{Datum, int, text, list, fields, Items, no_items, item}
use Rattle.field_paths.specs.Members.{member_at}
use Rattle.expr_lang.specs.declared.token.Comparison.{Comparison}
use Rattle.expr_lang.specs.declared.token.Comparison.TheVariants.{Equal, NotEqual, Less, LessOrEqual, Greater, GreaterOrEqual, Contains, StartsWith, EndsWith, In}
use Rattle.expr_lang.specs.Equality.{same}

-- two ints by their order, two texts by that of their bytes
abbrev pub less : Datum → Datum → Option Bool
less (int a) (int b) = Some (int_lt a b)
less (text a) (text b) = Some (is_lt (slice_cmp nat_cmp a b))
less _ _ = None

-- the part stands somewhere in the bytes
abbrev pub has_part : List ℕ → List ℕ → Bool
has_part [] part = starts_with nat_eq [] part
has_part (byte ∷ bytes) part = starts_with nat_eq (byte ∷ bytes) part || has_part bytes part

-- a test of two texts
abbrev pub of_texts : (List ℕ → List ℕ → Bool) → Datum → Datum → Option Bool
of_texts test (text a) (text b) = Some (test a b)
of_texts test _ _ = None

abbrev pub is_item : Datum → Items → Bool
is_item value no_items = false
is_item value (item first rest) = same value first || is_item value rest

-- a member of a list, or a key of a map
abbrev pub is_in : Datum → Datum → Option Bool
is_in value (list items) = Some (is_item value items)
is_in (text key) (fields members) = Some (is_some (member_at key members))
is_in _ _ = None

abbrev pub compared : Comparison → Datum → Datum → Option Bool
compared Equal a b = Some (same a b)
compared NotEqual a b = Some (not (same a b))
compared Less a b = less a b
compared LessOrEqual a b = option_map not (less b a)
compared Greater a b = less b a
compared GreaterOrEqual a b = option_map not (less a b)
compared Contains a b = of_texts has_part a b
compared StartsWith a b = of_texts (starts_with nat_eq) a b
compared EndsWith a b = of_texts (ends_with nat_eq) a b
compared In a b = is_in a b
