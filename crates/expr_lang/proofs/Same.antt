-- One turn of the loops that compare values.
use Rattle.std.proofs.Common.{◌≡◌, ℕ, suc, ◌+◌, ◌<◌, ◌≤◌, List, [], ◌∷◌, ap, refl, length, map, drop, get_or, add-one, drop-cons, Bool, true, false, ◌&&◌, ◌||◌}
use Rattle.std.proofs.lemmas.List.{drop_all}
use Rattle.entry_model.specs.declared.value.Value.{Value}
use Rattle.entry_model.specs.Datum.{Datum, datum, Items, items_of}
use Rattle.expr_lang.specs.Equality.{same, same_items}
use Rattle.expr_lang.specs.Kinds.{is_item}

abbrev seen : List Value → Items
seen values = items_of (map datum values)

pub items_step : (xs ys : List Value) (i : ℕ) (d e : Value) → i < length xs → i < length ys
    → same_items (seen (drop i xs)) (seen (drop i ys)) ≡ (same (datum (get_or xs i d)) (datum (get_or ys i e)) && same_items (seen (drop (i + 1) xs)) (seen (drop (i + 1) ys)))
items_step xs ys i d e h k = rw (add-one, drop-cons xs i d, drop-cons ys i e) refl

pub items_end : (xs ys : List Value) (i : ℕ) → length xs ≤ i → length ys ≤ i → same_items (seen (drop i xs)) (seen (drop i ys)) ≡ true
items_end xs ys i h k = rw (drop_all i xs h, drop_all i ys k) refl

and_right : (a b : Bool) → (a && b) ≡ true → b ≡ true
and_right true b h = h
and_right false b h = absurd (cc h)

same_length : (xs ys : List Value) → same_items (seen xs) (seen ys) ≡ true → length xs ≡ length ys
same_length [] [] h = refl
same_length [] (y ∷ ys) h = absurd (cc h)
same_length (x ∷ xs) [] h = absurd (cc h)
same_length (x ∷ xs) (y ∷ ys) h = ap suc (same_length xs ys (and_right (same (datum x) (datum y)) (same_items (seen xs) (seen ys)) h))

pub other_length : (xs ys : List Value) → (length xs ≡ length ys → ⊥) → same_items (seen xs) (seen ys) ≡ false
other_length xs ys n = by (same_items (seen xs) (seen ys)) refl
  where
    by : (b : Bool) → same_items (seen xs) (seen ys) ≡ b → b ≡ false
    by true e = absurd (n (same_length xs ys e))
    by false e = refl

pub item_step : (one : Datum) (values : List Value) (i : ℕ) (d : Value) → i < length values
    → is_item one (seen (drop i values)) ≡ (same one (datum (get_or values i d)) || is_item one (seen (drop (i + 1) values)))
item_step one values i d h = rw (add-one, drop-cons values i d) refl

pub item_end : (one : Datum) (values : List Value) (i : ℕ) → length values ≤ i → is_item one (seen (drop i values)) ≡ false
item_end one values i h = rw (drop_all i values h) refl
