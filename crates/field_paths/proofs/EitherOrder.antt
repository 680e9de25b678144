-- A value that is put at one place, and one that is taken from another.
use Rattle.std.proofs.Common.{◌≡◌, ◌≢◌, ℕ, List, [], ◌∷◌, ◌∙◌, ap, sym, refl, subst, Option, None, Some, inl, inr, ◌⊎◌}
use Rattle.std.specs.Option.{option_and_then, option_map, unwrap_or}
use Rattle.entry_model.specs.Datum.{Datum, null, boolean, int, text, list, fields, Members}
use Rattle.entry_model.specs.Lawful.{KeysAscend}
use Rattle.entry_model.specs.LogRecord.{LogRecord, members_in}
use Rattle.field_paths.specs.AreApart.{AreApart, Fork}
use Rattle.field_paths.specs.Change.{on_the_way, with_value, of_map, with_root, set_at, without_value, root_without, taken, take_at}
use Rattle.field_paths.specs.InOrder.{AscendDown, IsInOrder}
use Rattle.field_paths.specs.Members.{with_member, without_member}
use Rattle.field_paths.specs.Place.{Place}
use Rattle.field_paths.specs.ValueAt.{value_at, root_value, datum_at}
use Rattle.field_paths.specs.declared.path.Root.{Root}
use Rattle.field_paths.specs.declared.path.Root.TheVariants.{Body, Attributes, Resource}
use Rattle.field_paths.proofs.Members.{same_or_not, way_there, way_elsewhere, way_left, put_twice, put_both, put_and_left}
use Rattle.field_paths.proofs.Places.{step_of}
use Rattle.field_paths.proofs.Ways.{on_way, map_on_the_way, same_root, other_root, own_root}

-- the map of these members, with a value that is put down a name
abbrev pub put_down : List ℕ → List (List ℕ) → Datum → Members → Option Datum
put_down name names value ms = option_map (λ (one : Datum). fields (with_member name one ms)) (with_value names value (on_the_way name ms))

-- ---- below one map

-- the member that is taken is another than the one on the way to what is put
last_aside : (name other : List ℕ) (others : List (List ℕ)) (value : Datum) (ms : Members) → KeysAscend None ms → name ≢ other
    → put_down other others value (without_member name ms) ≡ option_map (without_value name []) (put_down other others value ms)
last_aside name other others value ms order apart =
    ap (λ (t : Datum). option_map (λ (one : Datum). fields (with_member other one (without_member name ms))) (with_value others value t)) (way_left name other ms (λ (same : other ≡ name). apart (sym same)))
    ∙ through (with_value others value (on_the_way other ms))
  where
    through : (r : Option Datum) → option_map (λ (one : Datum). fields (with_member other one (without_member name ms))) r
        ≡ option_map (without_value name []) (option_map (λ (one : Datum). fields (with_member other one ms)) r)
    through None = refl
    through (Some one) = ap (λ (m : Members). Some (fields m)) (put_and_left name other one None ms order apart)

-- the member on the way to what is taken is another than the one on the way to what is put
aside : (name next other : List ℕ) (names others : List (List ℕ)) (value : Datum) (ms : Members) → name ≢ other
    → put_down other others value (with_member name (without_value next names (on_the_way name ms)) ms) ≡ option_map (without_value name (next ∷ names)) (put_down other others value ms)
aside name next other names others value ms apart =
    ap (λ (t : Datum). option_map (λ (one : Datum). fields (with_member other one (with_member name below ms))) (with_value others value t)) (way_elsewhere name other below ms (λ (same : other ≡ name). apart (sym same)))
    ∙ through (with_value others value (on_the_way other ms))
  where
    below : Datum
    below = without_value next names (on_the_way name ms)

    back : other ≢ name
    back same = apart (sym same)

    through : (r : Option Datum) → option_map (λ (one : Datum). fields (with_member other one (with_member name below ms))) r
        ≡ option_map (without_value name (next ∷ names)) (option_map (λ (one : Datum). fields (with_member other one ms)) r)
    through None = refl
    through (Some one) =
        ap (λ (m : Members). Some (fields m)) (put_both other name one below ms back
        ∙ ap (λ (t : Datum). with_member name (without_value next names t) (with_member other one ms)) (sym (way_elsewhere other name one ms apart)))

-- one member is on the way to both
deeper : (name next : List ℕ) (names others : List (List ℕ)) (value : Datum) (ms : Members)
    → with_value others value (without_value next names (on_the_way name ms)) ≡ option_map (without_value next names) (with_value others value (on_the_way name ms))
    → put_down name others value (with_member name (without_value next names (on_the_way name ms)) ms) ≡ option_map (without_value name (next ∷ names)) (put_down name others value ms)
deeper name next names others value ms inner =
    ap (λ (t : Datum). option_map (λ (one : Datum). fields (with_member name one (with_member name below ms))) (with_value others value t)) (way_there name below ms)
    ∙ ap (option_map (λ (one : Datum). fields (with_member name one (with_member name below ms)))) inner
    ∙ through (with_value others value (on_the_way name ms))
  where
    below : Datum
    below = without_value next names (on_the_way name ms)

    through : (r : Option Datum) → option_map (λ (one : Datum). fields (with_member name one (with_member name below ms))) (option_map (without_value next names) r)
        ≡ option_map (without_value name (next ∷ names)) (option_map (λ (one : Datum). fields (with_member name one ms)) r)
    through None = refl
    through (Some one) =
        ap (λ (m : Members). Some (fields m)) (put_twice name (without_value next names one) below ms
        ∙ sym (put_twice name (without_value next names one) one ms)
        ∙ ap (λ (t : Datum). with_member name (without_value next names t) (with_member name one ms)) (sym (way_there name one ms)))

abbrev EitherOrder : List ℕ → List (List ℕ) → List (List ℕ) → Datum → Datum → Type 0
EitherOrder name names others value target = with_value others value (without_value name names target) ≡ option_map (without_value name names) (with_value others value target)

below_a_root : (name : List ℕ) (names others : List (List ℕ)) (value found target : Datum) → AscendDown (name ∷ names) target → Fork (name ∷ names) others
    → value_at (name ∷ names) target ≡ Some found → EitherOrder name names others value target
below_a_root name names [] value found target order fork there = absurd fork
below_a_root name [] (other ∷ others) value found target order (inl apart) there =
    subst (EitherOrder name [] (other ∷ others) value) (sym (map_on_the_way name [] found target there)) (last_aside name other others value (members_in target) order.0 apart)
below_a_root name [] (other ∷ others) value found target order (inr fork) there = absurd fork
below_a_root name (next ∷ names) (other ∷ others) value found target order fork there =
    subst (EitherOrder name (next ∷ names) (other ∷ others) value) (sym (map_on_the_way name (next ∷ names) found target there))
    (at fork (λ (f : Fork (next ∷ names) others). below_a_root next names others value found (on_the_way name ms) order.1 f down) (same_or_not other name))
  where
    ms : Members
    ms = members_in target

    down : value_at (next ∷ names) (on_the_way name ms) ≡ Some found
    down = let way = on_way name (next ∷ names) found ms there in ap (λ (o : Option Datum). value_at (next ∷ names) (unwrap_or o null)) way.there ∙ way.down

    at : (name ≢ other) ⊎ Fork (next ∷ names) others → (Fork (next ∷ names) others → EitherOrder next names others value (on_the_way name ms)) → (other ≡ name) ⊎ (other ≢ name)
        → EitherOrder name (next ∷ names) (other ∷ others) value (fields ms)
    at f inner (inr apart) = aside name next other names others value ms (λ (same : name ≡ other). apart (sym same))
    at (inl apart) inner (inl same) = absurd (apart (sym same))
    at (inr f) inner (inl same) = subst (λ (k : List ℕ). EitherOrder name (next ∷ names) (k ∷ others) value (fields ms)) (sym same) (deeper name next names others value ms (inner f))

-- ---- in one root

maps_as_roots : (root : Root) (name : List ℕ) (names : List (List ℕ)) (ms : Members) (entry : LogRecord)
    → with_root root (without_value name names (fields ms)) (root_without root name names entry) ≡ option_map (taken root (name ∷ names)) (with_root root (fields ms) entry)
maps_as_roots Body name names ms entry = refl
maps_as_roots Attributes name [] ms entry = refl
maps_as_roots Attributes name (next ∷ names) ms entry = refl
maps_as_roots Resource name [] ms entry = refl
maps_as_roots Resource name (next ∷ names) ms entry = refl

within_a_root : (root : Root) (names others : List (List ℕ)) (value found : Datum) (entry : LogRecord) → AscendDown names (root_value root entry) → Fork names others
    → value_at names (root_value root entry) ≡ Some found
    → set_at (record { root = root; names = others }) value (taken root names entry) ≡ option_map (taken root names) (set_at (record { root = root; names = others }) value entry)
within_a_root root [] others value found entry order fork there = absurd fork
within_a_root root (name ∷ names) [] value found entry order fork there = absurd fork
within_a_root root (name ∷ names) (other ∷ others) value found entry order fork there =
    ap (λ (t : Datum). option_and_then (λ (r : Datum). with_root root r left) (with_value (other ∷ others) value t)) (own_root root name names entry)
    ∙ ap (option_and_then (λ (r : Datum). with_root root r left)) (below_a_root name names (other ∷ others) value found (root_value root entry) order fork there)
    ∙ through (with_value (other ∷ others) value (root_value root entry)) refl
  where
    left : LogRecord
    left = root_without root name names entry

    through : (r : Option Datum) → with_value (other ∷ others) value (root_value root entry) ≡ r
        → option_and_then (λ (r : Datum). with_root root r left) (option_map (without_value name names) r)
        ≡ option_map (taken root (name ∷ names)) (option_and_then (λ (r : Datum). with_root root r entry) r)
    through None is = refl
    through (Some t) is =
        let step = step_of other others value (root_value root entry) t is in
        subst (λ (d : Datum). with_root root (without_value name names d) left ≡ option_map (taken root (name ∷ names)) (with_root root d entry)) (sym step.made)
        (maps_as_roots root name names (with_member other step.changed step.members) entry)

-- ---- in two roots

of_map_through : (f : LogRecord → LogRecord) (made changed : Members → LogRecord) → ((ms : Members) → changed ms ≡ f (made ms))
    → (d : Datum) → of_map d changed ≡ option_map f (of_map d made)
of_map_through f made changed same null = refl
of_map_through f made changed same (boolean b) = refl
of_map_through f made changed same (int z) = refl
of_map_through f made changed same (text bytes) = refl
of_map_through f made changed same (list items) = refl
of_map_through f made changed same (fields ms) = ap Some (same ms)

into_attributes : (f : LogRecord → LogRecord) (entry changed : LogRecord) → ((ms : Members) → record changed { attributes = ms } ≡ f (record entry { attributes = ms }))
    → (d : Datum) → with_root Attributes d changed ≡ option_map f (with_root Attributes d entry)
into_attributes f entry changed same d = of_map_through f (λ (ms : Members). record entry { attributes = ms }) (λ (ms : Members). record changed { attributes = ms }) same d

into_resource : (f : LogRecord → LogRecord) (entry changed : LogRecord) → ((ms : Members) → record changed { resource = ms } ≡ f (record entry { resource = ms }))
    → (d : Datum) → with_root Resource d changed ≡ option_map f (with_root Resource d entry)
into_resource f entry changed same d = of_map_through f (λ (ms : Members). record entry { resource = ms }) (λ (ms : Members). record changed { resource = ms }) same d

whole_roots : (root other : Root) (names : List (List ℕ)) (d : Datum) (entry : LogRecord) → root ≢ other
    → with_root other d (taken root names entry) ≡ option_map (taken root names) (with_root other d entry)
whole_roots Body Body names d entry roots = absurd (roots refl)
whole_roots Body Attributes [] d entry roots = into_attributes (taken Body []) entry (taken Body [] entry) (λ ms. refl) d
whole_roots Body Attributes (name ∷ names) d entry roots = into_attributes (taken Body (name ∷ names)) entry (taken Body (name ∷ names) entry) (λ ms. refl) d
whole_roots Body Resource [] d entry roots = into_resource (taken Body []) entry (taken Body [] entry) (λ ms. refl) d
whole_roots Body Resource (name ∷ names) d entry roots = into_resource (taken Body (name ∷ names)) entry (taken Body (name ∷ names) entry) (λ ms. refl) d
whole_roots Attributes Body [] d entry roots = refl
whole_roots Attributes Body (name ∷ names) d entry roots = refl
whole_roots Attributes Attributes names d entry roots = absurd (roots refl)
whole_roots Attributes Resource [] d entry roots = into_resource (taken Attributes []) entry (taken Attributes [] entry) (λ ms. refl) d
whole_roots Attributes Resource (name ∷ names) d entry roots = into_resource (taken Attributes (name ∷ names)) entry (taken Attributes (name ∷ names) entry) (λ ms. refl) d
whole_roots Resource Body [] d entry roots = refl
whole_roots Resource Body (name ∷ names) d entry roots = refl
whole_roots Resource Attributes [] d entry roots = into_attributes (taken Resource []) entry (taken Resource [] entry) (λ ms. refl) d
whole_roots Resource Attributes (name ∷ names) d entry roots = into_attributes (taken Resource (name ∷ names)) entry (taken Resource (name ∷ names) entry) (λ ms. refl) d
whole_roots Resource Resource names d entry roots = absurd (roots refl)

in_two_roots : (from to : Place) (value : Datum) (entry : LogRecord) → from.root ≢ to.root
    → set_at to value (take_at from entry) ≡ option_map (take_at from) (set_at to value entry)
in_two_roots from to value entry roots =
    ap (λ (t : Datum). option_and_then (λ root. with_root to.root root (take_at from entry)) (with_value to.names value t)) (other_root from.root to.root from.names entry roots)
    ∙ through (with_value to.names value (root_value to.root entry))
  where
    through : (r : Option Datum) → option_and_then (λ root. with_root to.root root (take_at from entry)) r
        ≡ option_map (take_at from) (option_and_then (λ root. with_root to.root root entry) r)
    through None = refl
    through (Some root) = whole_roots from.root to.root from.names root entry roots

pub either_order : (from to : Place) (value found : Datum) (entry : LogRecord) → IsInOrder from entry → AreApart from to → datum_at from entry ≡ Some found
    → set_at to value (take_at from entry) ≡ option_map (take_at from) (set_at to value entry)
either_order from to value found entry order apart there = at apart (same_root from.root to.root)
  where
    at : AreApart from to → (from.root ≡ to.root) ⊎ (from.root ≢ to.root) → set_at to value (take_at from entry) ≡ option_map (take_at from) (set_at to value entry)
    at a (inr roots) = in_two_roots from to value entry roots
    at (inl roots) (inl same) = absurd (roots same)
    at (inr fork) (inl same) =
        subst (λ (r : Root). set_at (record { root = r; names = to.names }) value (take_at from entry) ≡ option_map (take_at from) (set_at (record { root = r; names = to.names }) value entry)) same
        (within_a_root from.root from.names to.names value found entry order fork there)
