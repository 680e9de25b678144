-- What is listed stays where it was.
use Rattle.std.proofs.Common.{◌≡◌, ◌≢◌, ℕ, List, [], ◌∷◌, ◌++◌, Some, None, inl, inr, ◌⊎◌, refl, sym, ap, subst, ◌∙◌, rules}
use Rattle.std.specs.Prelude.{⊤, All, Option, unwrap_or, option_map, option_and_then}
use Rattle.std.proofs.lemmas.List.Elements.{All-head, All-tail}
use Rattle.entry_model.specs.Datum.{Datum, null, fields, Members, no_members}
use Rattle.entry_model.specs.LogRecord.{LogRecord}
use Rattle.field_paths.proofs.Members.{same_or_not, member_there, member_elsewhere}
use Rattle.field_paths.proofs.Places.{put_there, put_elsewhere}
use Rattle.field_paths.proofs.Ways.{same_root}
use Rattle.field_paths.specs.AreApart.{AreApart, Fork}
use Rattle.field_paths.specs.Change.{room_in, on_the_way, with_value, with_root, set_at, with_empty_map}
use Rattle.field_paths.specs.Members.{with_member}
use Rattle.field_paths.specs.Place.{Place}
use Rattle.field_paths.specs.ValueAt.{datum_at, value_at, root_value}
use Rattle.field_paths.specs.declared.path.Root.{Root}
use Rattle.field_paths.specs.declared.path.Root.TheVariants.{Body, Attributes, Resource}
use Rattle.field_ops.proofs.Retained.{this_emptied, stay_empty, all_apart}
use Rattle.field_ops.specs.Rows.{emptied, with_found, with_listed, retained}

-- ---- values that admit a value down some names

-- each value on the way down is a map, or nothing yet
Admits : List (List ℕ) → Datum → Type 0
Admits [] target = ⊤
Admits (name ∷ names) target = (ms : Members) × (room_in target ≡ Some ms) × Admits names (on_the_way name ms)

nothing_admits : (names : List (List ℕ)) → Admits names null
unfolding Admits
nothing_admits [] = tt
nothing_admits (name ∷ names) = (no_members, refl, nothing_admits names)

empty_admits : (names : List (List ℕ)) → Admits names (fields no_members)
unfolding Admits
empty_admits [] = tt
empty_admits (name ∷ names) = (no_members, refl, nothing_admits names)

-- what is made of a value by putting one down a name
record Put (name : List ℕ) (names : List (List ℕ)) (value target made : Datum) : Type 0 where
  ms : Members
  changed : Datum
  room : room_in target ≡ Some ms
  inner : with_value names value (on_the_way name ms) ≡ Some changed
  is : made ≡ fields (with_member name changed ms)

put_of : (name : List ℕ) (names : List (List ℕ)) (value target made : Datum) → with_value (name ∷ names) value target ≡ Some made → Put name names value target made
put_of name names value target made h = by (room_in target) refl h
  where
    within : (ms : Members) (r : Option Datum) → room_in target ≡ Some ms → with_value names value (on_the_way name ms) ≡ r
        → option_map (λ changed. fields (with_member name changed ms)) r ≡ Some made → Put name names value target made
    within ms None e i h = absurd (cc h)
    within ms (Some changed) e i h = record { ms = ms; changed = changed; room = e; inner = i; is = cc h }

    by : (room : Option Members) → room_in target ≡ room
        → option_and_then (λ ms. option_map (λ changed. fields (with_member name changed ms)) (with_value names value (on_the_way name ms))) room ≡ Some made → Put name names value target made
    by None e h = absurd (cc h)
    by (Some ms) e h = within ms (with_value names value (on_the_way name ms)) e refl h

-- a value that is admitted can be put
admitted : (names : List (List ℕ)) (value target : Datum) → Admits names target → (made : Datum) × (with_value names value target ≡ Some made)
unfolding Admits
admitted [] value target admits = (value, refl)
admitted (name ∷ names) value target admits =
    let inner = admitted names value (on_the_way name admits.0) admits.2 in
    (fields (with_member name inner.0 admits.0), rw (admits.1, inner.1) refl)

one_room : (target : Datum) (ms other : Members) → room_in target ≡ Some ms → room_in target ≡ Some other → ms ≡ other
one_room target ms other a b = cc (a, b)

-- a value that is put elsewhere leaves the way
way_stays : (others names : List (List ℕ)) (value target made : Datum) → Fork others names → with_value others value target ≡ Some made → Admits names target → Admits names made
unfolding Admits
way_stays [] names value target made fork put admits = absurd fork
way_stays (other ∷ others) [] value target made fork put admits = absurd fork
way_stays (other ∷ others) (name ∷ names) value target made fork put admits =
    let p = put_of other others value target made put in
    let same = one_room target admits.0 p.ms admits.1 p.room in
    let down : Admits names (on_the_way name p.ms) = subst (λ (ms : Members). Admits names (on_the_way name ms)) same admits.2 in
    (with_member other p.changed p.ms, ap room_in p.is, at p (λ (apart : Fork others names). way_stays others names value (on_the_way other p.ms) p.changed apart p.inner) down fork (same_or_not name other))
  where
    aside : (p : Put other others value target made) → Admits names (on_the_way name p.ms) → name ≢ other → Admits names (on_the_way name (with_member other p.changed p.ms))
    aside p down differ = subst (Admits names) (ap (λ (o : Option Datum). unwrap_or o null) (sym (member_elsewhere other name p.changed p.ms differ))) down

    at : (p : Put other others value target made) → (Fork others names → Admits names (on_the_way other p.ms) → Admits names p.changed)
        → Admits names (on_the_way name p.ms) → (other ≢ name) ⊎ Fork others names → (name ≡ other) ⊎ (name ≢ other) → Admits names (on_the_way name (with_member other p.changed p.ms))
    at p deeper down fork (inr differ) = aside p down differ
    at p deeper down (inl differ) (inl same) = absurd (differ (sym same))
    at p deeper down (inr apart) (inl same) =
        let there : Admits names (on_the_way other p.ms) = subst (λ (k : List ℕ). Admits names (on_the_way k p.ms)) same down in
        subst (λ (k : List ℕ). Admits names (on_the_way k (with_member other p.changed p.ms))) (sym same)
        (subst (Admits names) (ap (λ (o : Option Datum). unwrap_or o null) (sym (member_there other p.changed p.ms))) (deeper apart there))

-- ---- entries that admit a value at a place

abbrev IsRoomy : Place → LogRecord → Type 0
IsRoomy place entry = Admits place.names (root_value place.root entry)

abbrev root_place : Root → Place
root_place root = record { root = root; names = [] }

same_some : (a b : Datum) → ◌≡◌ {A = Option Datum} (Some a) (Some b) → a ≡ b
same_some a b e = search (rules, e)

-- how a value came to a place
record Placed (place : Place) (value : Datum) (before after : LogRecord) : Type 0 where
  root : Datum
  down : with_value place.names value (root_value place.root before) ≡ Some root
  put : set_at (root_place place.root) root before ≡ Some after

placed : (place : Place) (value : Datum) (before after : LogRecord) → set_at place value before ≡ Some after → Placed place value before after
placed place value before after h = by (with_value place.names value (root_value place.root before)) refl h
  where
    by : (r : Option Datum) → with_value place.names value (root_value place.root before) ≡ r → option_and_then (λ root. with_root place.root root before) r ≡ Some after → Placed place value before after
    by None e h = absurd (cc h)
    by (Some root) e h = record { root = root; down = e; put = h }

roomy_stays : (other field : Place) (value : Datum) (before after : LogRecord) → AreApart other field → set_at other value before ≡ Some after → IsRoomy field before → IsRoomy field after
roomy_stays other field value before after apart h roomy = at apart (same_root other.root field.root)
  where
    aside : other.root ≢ field.root → IsRoomy field after
    aside differ = subst (Admits field.names) (sym (same_some (root_value field.root after) (root_value field.root before) (put_elsewhere other (root_place field.root) value before after (inl differ) h))) roomy

    at : AreApart other field → (other.root ≡ field.root) ⊎ (other.root ≢ field.root) → IsRoomy field after
    at a (inr differ) = aside differ
    at (inl differ) (inl same) = absurd (differ same)
    at (inr fork) (inl same) =
        let p = placed other value before after h in
        let there : root_value other.root after ≡ p.root = same_some (root_value other.root after) p.root (put_there (root_place other.root) p.root before after p.put) in
        let roomy_there : Admits field.names (root_value other.root before) = subst (λ (r : Root). Admits field.names (root_value r before)) (sym same) roomy in
        subst (λ (r : Root). Admits field.names (root_value r after)) same
        (subst (Admits field.names) (sym there) (way_stays other.names field.names value (root_value other.root before) p.root fork p.down roomy_there))

map_made : (name : List ℕ) (names : List (List ℕ)) (value target made : Datum) → with_value (name ∷ names) value target ≡ Some made → (ms : Members) × (made ≡ fields ms)
map_made name names value target made h = let p = put_of name names value target made h in (with_member name p.changed p.ms, p.is)

map_as_root : (root : Root) (ms : Members) (entry : LogRecord) → (after : LogRecord) × (with_root root (fields ms) entry ≡ Some after)
map_as_root Body ms entry = (_, refl)
map_as_root Attributes ms entry = (_, refl)
map_as_root Resource ms entry = (_, refl)

own_root : (root : Root) (whole entry : LogRecord) → (after : LogRecord) × (with_root root (root_value root whole) entry ≡ Some after)
own_root Body whole entry = (_, refl)
own_root Attributes whole entry = (_, refl)
own_root Resource whole entry = (_, refl)

-- what an entry has at a place can be put there in another that admits it
can_be_put : (root : Root) (names : List (List ℕ)) (value : Datum) (whole entry : LogRecord) → Admits names (root_value root entry) → value_at names (root_value root whole) ≡ Some value
    → (after : LogRecord) × (set_at (record { root = root; names = names }) value entry ≡ Some after)
can_be_put root [] value whole entry roomy there =
    let made = own_root root whole entry in
    (made.0, subst (λ (v : Datum). with_root root v entry ≡ Some made.0) (same_some (root_value root whole) value there) made.1)
can_be_put root (name ∷ names) value whole entry roomy there =
    let down = admitted (name ∷ names) value (root_value root entry) roomy in
    let a_map = map_made name names value (root_value root entry) down.0 down.1 in
    let made = map_as_root root a_map.0 entry in
    (made.0, ap (option_and_then (λ (v : Datum). with_root root v entry)) down.1 ∙ ap (λ (v : Datum). with_root root v entry) a_map.1 ∙ made.1)

-- ---- retaining

root_of_listed : (before after : List Place) (field : Place) (entry : LogRecord) → root_value field.root (emptied (before ++ field ∷ after) entry) ≡ fields no_members
root_of_listed [] after field entry = stay_empty after field.root (with_empty_map field.root entry) (this_emptied field.root entry)
root_of_listed (other ∷ before) after field entry = root_of_listed before after field (with_empty_map other.root entry)

roomy_behind : (other field : Place) (found : Option Datum) (entry : LogRecord) → AreApart other field → IsRoomy field entry → IsRoomy field (with_found other found entry)
roomy_behind other field None entry apart roomy = roomy
roomy_behind other field (Some value) entry apart roomy = by (set_at other value entry) refl
  where
    by : (after : Option LogRecord) → set_at other value entry ≡ after → IsRoomy field (unwrap_or after entry)
    by None is = roomy
    by (Some after) is = roomy_stays other field value entry after apart is roomy

found_is_there : (field : Place) (value : Datum) (whole entry : LogRecord) → IsRoomy field entry → datum_at field whole ≡ Some value → datum_at field (with_found field (datum_at field whole) entry) ≡ Some value
found_is_there field value whole entry roomy there =
    let put = can_be_put field.root field.names value whole entry roomy there in
    ap (λ (found : Option Datum). datum_at field (with_found field found entry)) there
    ∙ ap (λ (after : Option LogRecord). datum_at field (unwrap_or after entry)) put.1
    ∙ put_there field value entry put.0 put.1

abbrev IsAside : Place → Place → Type 0
IsAside field other = AreApart other field

listed_there : (before after : List Place) (field : Place) (value : Datum) (whole entry : LogRecord) → All (IsAside field) before → All (IsAside field) after → IsRoomy field entry
    → datum_at field whole ≡ Some value → datum_at field (with_listed (before ++ field ∷ after) whole entry) ≡ Some value
listed_there [] after field value whole entry first then roomy there =
    all_apart after field whole (with_found field (datum_at field whole) entry) then ∙ found_is_there field value whole entry roomy there
listed_there (other ∷ before) after field value whole entry first then roomy there =
    listed_there before after field value whole (with_found other (datum_at other whole) entry) (All-tail (IsAside field) other before first) then
    (roomy_behind other field (datum_at other whole) entry (All-head (IsAside field) other before first) roomy) there

nothing_below : (names : List (List ℕ)) (root : Datum) → value_at names root ≡ None → value_at names (fields no_members) ≡ None
nothing_below [] root none = absurd (cc none)
nothing_below (name ∷ names) root none = refl

listed_missing : (before after : List Place) (field : Place) (whole entry : LogRecord) → All (IsAside field) before → All (IsAside field) after
    → datum_at field whole ≡ None → datum_at field (with_listed (before ++ field ∷ after) whole entry) ≡ datum_at field entry
listed_missing [] after field whole entry first then none =
    all_apart after field whole (with_found field (datum_at field whole) entry) then
    ∙ ap (λ (found : Option Datum). datum_at field (with_found field found entry)) none
listed_missing (other ∷ before) after field whole entry first then none =
    listed_missing before after field whole (with_found other (datum_at other whole) entry) (All-tail (IsAside field) other before first) then none
    ∙ all_apart (other ∷ []) field whole entry (All-one (All-head (IsAside field) other before first))
  where
    All-one : AreApart other field → All (IsAside field) (other ∷ [])
    All-one apart = search (rules, apart)

pub listed_stays : (before after : List Place) (field : Place) (entry : LogRecord) → All (IsAside field) before → All (IsAside field) after
    → datum_at field (retained (before ++ field ∷ after) entry) ≡ datum_at field entry
listed_stays before after field entry first then = by (datum_at field entry) refl
  where
    root_is : root_value field.root (emptied (before ++ field ∷ after) entry) ≡ fields no_members
    root_is = root_of_listed before after field entry

    by : (found : Option Datum) → datum_at field entry ≡ found → datum_at field (retained (before ++ field ∷ after) entry) ≡ found
    by None is =
        listed_missing before after field entry (emptied (before ++ field ∷ after) entry) first then is
        ∙ ap (value_at field.names) root_is ∙ nothing_below field.names (root_value field.root entry) is
    by (Some value) is =
        listed_there before after field value entry (emptied (before ++ field ∷ after) entry) first then
        (subst (Admits field.names) (sym root_is) (empty_admits field.names)) is
