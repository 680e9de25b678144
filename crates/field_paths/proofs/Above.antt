-- A value that is put above a place from which one was taken.
use Rattle.std.proofs.Common.{◌≡◌, ℕ, List, [], ◌∷◌, ◌++◌, ◌∙◌, ap, sym, refl, subst, Option, None, Some}
use Rattle.std.specs.Option.{option_and_then, option_map, unwrap_or}
use Rattle.entry_model.specs.Datum.{Datum, null, fields, Members}
use Rattle.entry_model.specs.LogRecord.{LogRecord, members_in}
use Rattle.field_paths.specs.Change.{on_the_way, with_value, with_root, set_at, without_value, root_without, taken, take_at}
use Rattle.field_paths.specs.Members.{with_member}
use Rattle.field_paths.specs.Place.{Place}
use Rattle.field_paths.specs.Relates.{Relates}
use Rattle.field_paths.specs.ValueAt.{value_at, root_value, datum_at}
use Rattle.field_paths.specs.declared.path.Root.{Root}
use Rattle.field_paths.specs.declared.path.Root.TheVariants.{Body, Attributes, Resource}
use Rattle.field_paths.specs.declared.relation.Relation.TheVariants.{Below}
use Rattle.field_paths.proofs.Members.{way_there, put_twice}
use Rattle.field_paths.proofs.Ways.{on_way, map_on_the_way, own_root}

-- what is left of a value from which one is taken down some names
abbrev left_of : List (List ℕ) → Datum → Datum
left_of [] target = target
left_of (name ∷ names) target = without_value name names target

left_in_map : (name : List ℕ) (names : List (List ℕ)) (next : List ℕ) (rest : List (List ℕ)) (ms : Members)
    → left_of (name ∷ (names ++ next ∷ rest)) (fields ms) ≡ fields (with_member name (left_of (names ++ next ∷ rest) (on_the_way name ms)) ms)
left_in_map name [] next rest ms = refl
left_in_map name (other ∷ names) next rest ms = refl

abbrev Replaces : List (List ℕ) → List ℕ → List (List ℕ) → Datum → Datum → Type 0
Replaces names next rest value target = with_value names value (left_of (names ++ next ∷ rest) target) ≡ with_value names value target

replaces : (names : List (List ℕ)) (next : List ℕ) (rest : List (List ℕ)) (value found target : Datum) → value_at (names ++ next ∷ rest) target ≡ Some found
    → Replaces names next rest value target
replaces [] next rest value found target there = refl
replaces (name ∷ names) next rest value found target there =
    subst (Replaces (name ∷ names) next rest value) (sym (map_on_the_way name (names ++ next ∷ rest) found target there))
    (in_map (replaces names next rest value found (on_the_way name ms) down))
  where
    ms : Members
    ms = members_in target

    down : value_at (names ++ next ∷ rest) (on_the_way name ms) ≡ Some found
    down = let way = on_way name (names ++ next ∷ rest) found ms there in ap (λ (o : Option Datum). value_at (names ++ next ∷ rest) (unwrap_or o null)) way.there ∙ way.down

    below : Datum
    below = left_of (names ++ next ∷ rest) (on_the_way name ms)

    through : (r : Option Datum) → option_map (λ (one : Datum). fields (with_member name one (with_member name below ms))) r ≡ option_map (λ (one : Datum). fields (with_member name one ms)) r
    through None = refl
    through (Some one) = ap (λ (m : Members). Some (fields m)) (put_twice name one below ms)

    in_map : Replaces names next rest value (on_the_way name ms) → Replaces (name ∷ names) next rest value (fields ms)
    in_map inner =
        ap (with_value (name ∷ names) value) (left_in_map name names next rest ms)
        ∙ ap (λ (t : Datum). option_map (λ (one : Datum). fields (with_member name one (with_member name below ms))) (with_value names value t)) (way_there name below ms)
        ∙ ap (option_map (λ (one : Datum). fields (with_member name one (with_member name below ms)))) inner
        ∙ through (with_value names value (on_the_way name ms))

root_replaced : (root : Root) (name : List ℕ) (names : List (List ℕ)) (t : Datum) (entry : LogRecord) → with_root root t (root_without root name names entry) ≡ with_root root t entry
root_replaced Body name names t entry = refl
root_replaced Attributes name names t entry = refl
root_replaced Resource name names t entry = refl

replaces_in_root : (root : Root) (names : List (List ℕ)) (next : List ℕ) (rest : List (List ℕ)) (value found : Datum) (entry : LogRecord) → value_at (names ++ next ∷ rest) (root_value root entry) ≡ Some found
    → set_at (record { root = root; names = names }) value (taken root (names ++ next ∷ rest) entry) ≡ set_at (record { root = root; names = names }) value entry
replaces_in_root root [] next rest value found entry there = root_replaced root next rest value entry
replaces_in_root root (name ∷ names) next rest value found entry there =
    ap (λ (t : Datum). option_and_then (λ (r : Datum). with_root root r left) (with_value (name ∷ names) value t)) (own_root root name (names ++ next ∷ rest) entry)
    ∙ ap (option_and_then (λ (r : Datum). with_root root r left)) (replaces (name ∷ names) next rest value found (root_value root entry) there)
    ∙ through (with_value (name ∷ names) value (root_value root entry))
  where
    left : LogRecord
    left = root_without root name (names ++ next ∷ rest) entry

    through : (r : Option Datum) → option_and_then (λ (t : Datum). with_root root t left) r ≡ option_and_then (λ (t : Datum). with_root root t entry) r
    through None = refl
    through (Some t) = root_replaced root name (names ++ next ∷ rest) t entry

pub above_replaces : (from to : Place) (value found : Datum) (entry : LogRecord) → Relates Below from to → datum_at from entry ≡ Some found → set_at to value (take_at from entry) ≡ set_at to value entry
above_replaces from to value found entry below there =
    let names = below.1.2 in
    let next = below.1.0 in
    let rest = below.1.1 in
    let here : value_at (to.names ++ next ∷ rest) (root_value from.root entry) ≡ Some found = subst (λ (l : List (List ℕ)). value_at l (root_value from.root entry) ≡ Some found) names there in
    subst (λ (r : Root). set_at (record { root = r; names = to.names }) value (take_at from entry) ≡ set_at (record { root = r; names = to.names }) value entry) below.0
    (subst (λ (l : List (List ℕ)). set_at (record { root = from.root; names = to.names }) value (taken from.root l entry) ≡ set_at (record { root = from.root; names = to.names }) value entry) (sym names)
    (replaces_in_root from.root to.names next rest value found entry here))
