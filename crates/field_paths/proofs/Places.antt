-- What is at a place, and at others, after a value was put.
use Rattle.std.proofs.Common.{◌≡◌, ◌≢◌, ℕ, List, [], ◌∷◌, ◌∙◌, ap, sym, refl, Option, None, Some, option_map, inl, inr, ◌⊎◌}
use Rattle.std.specs.Option.{option_and_then, unwrap_or}
use Rattle.std.specs.declared.cmp.Ordering.{Ordering}
use Rattle.std.specs.declared.cmp.Ordering.TheVariants.{Less, Equal, Greater}
use Rattle.std.proofs.lemmas.Map.Lookups.{exact_bytes}
use Rattle.entry_model.specs.Datum.{Datum, null, boolean, int, text, list, fields, Members}
use Rattle.entry_model.specs.LogRecord.{LogRecord, members_in}
use Rattle.field_paths.specs.declared.path.Root.{Root}
use Rattle.field_paths.specs.declared.path.Root.TheVariants.{Body, Attributes, Resource}
use Rattle.field_paths.specs.AreApart.{AreApart, Fork}
use Rattle.field_paths.specs.Change.{room_in, on_the_way, with_value, of_map, with_root, set_at}
use Rattle.field_paths.specs.Members.{member_at, with_member}
use Rattle.field_paths.specs.Place.{Place}
use Rattle.field_paths.specs.ValueAt.{value_at, root_value, datum_at}
use Rattle.field_paths.proofs.Members.{cmp, itself, member_there, member_elsewhere}
use Rattle.field_paths.proofs.Ways.{same_root}

room_is : (t : Datum) (ms : Members) → room_in t ≡ Some ms → members_in t ≡ ms
room_is null ms h = cc h
room_is (boolean b) ms h = absurd (cc h)
room_is (int z) ms h = absurd (cc h)
room_is (text bytes) ms h = absurd (cc h)
room_is (list values) ms h = absurd (cc h)
room_is (fields inner) ms h = cc h

-- how a value came down the first of the names
pub record Step (name : List ℕ) (names : List (List ℕ)) (value t n : Datum) : Type 0 where
  pub members : Members
  pub changed : Datum
  pub room : room_in t ≡ Some members
  pub inner : with_value names value (on_the_way name members) ≡ Some changed
  pub made : n ≡ fields (with_member name changed members)

pub step_of : (name : List ℕ) (names : List (List ℕ)) (value t n : Datum) → with_value (name ∷ names) value t ≡ Some n → Step name names value t n
step_of name names value t n h = by (room_in t) refl h
  where
    within : (ms : Members) (r : Option Datum) → room_in t ≡ Some ms → with_value names value (on_the_way name ms) ≡ r
        → option_map (λ changed. fields (with_member name changed ms)) r ≡ Some n → Step name names value t n
    within ms None e i h = absurd (cc h)
    within ms (Some changed) e i h = record { members = ms; changed = changed; room = e; inner = i; made = cc h }

    by : (room : Option Members) → room_in t ≡ room
        → option_and_then (λ members. option_map (λ changed. fields (with_member name changed members)) (with_value names value (on_the_way name members))) room ≡ Some n → Step name names value t n
    by None e h = absurd (cc h)
    by (Some ms) e h = within ms (with_value names value (on_the_way name ms)) e refl h

value_there : (names : List (List ℕ)) (value t n : Datum) → with_value names value t ≡ Some n → value_at names n ≡ Some value
value_there [] value t n h = sym h
value_there (name ∷ names) value t n h =
    let s = step_of name names value t n h in
    ap (value_at (name ∷ names)) s.made ∙ ap (option_and_then (value_at names)) (member_there name s.changed s.members)
    ∙ value_there names value (on_the_way name s.members) s.changed s.inner

value_elsewhere : (names others : List (List ℕ)) (value t n : Datum) → Fork names others → with_value names value t ≡ Some n → value_at others n ≡ value_at others t
value_elsewhere [] others value t n f h = absurd f
value_elsewhere (name ∷ names) [] value t n f h = absurd f
value_elsewhere (name ∷ names) (other ∷ others) value t n f h =
    let s = step_of name names value t n h in
    ap (value_at (other ∷ others)) s.made ∙ at f s (λ (fork : Fork names others). value_elsewhere names others value (on_the_way name s.members) s.changed fork s.inner) ∙ ap (λ (ms : Members). option_and_then (value_at others) (member_at other ms)) (sym (room_is t s.members s.room))
  where
    none : (fork : Fork names others) → value_at others null ≡ None
    none fork = empty names others fork
      where
        empty : (xs ys : List (List ℕ)) → Fork xs ys → value_at ys null ≡ None
        empty [] ys fork = absurd fork
        empty (x ∷ xs) [] fork = absurd fork
        empty (x ∷ xs) (y ∷ ys) fork = refl

    deeper : (ms : Members) (changed : Datum) → Fork names others → value_at others changed ≡ value_at others (on_the_way name ms)
        → value_at others changed ≡ option_and_then (value_at others) (member_at name ms)
    deeper ms changed fork e = e ∙ old (member_at name ms)
      where
        old : (o : Option Datum) → value_at others (unwrap_or o null) ≡ option_and_then (value_at others) o
        old None = none fork
        old (Some d) = refl

    aside : (s : Step name names value t n) → other ≢ name → option_and_then (value_at others) (member_at other (with_member name s.changed s.members)) ≡ option_and_then (value_at others) (member_at other s.members)
    aside s apart = ap (option_and_then (value_at others)) (member_elsewhere name other s.changed s.members apart)

    below : (s : Step name names value t n) → Fork names others → value_at others s.changed ≡ value_at others (on_the_way name s.members) → (o : Ordering) → cmp other name ≡ o
        → option_and_then (value_at others) (member_at other (with_member name s.changed s.members)) ≡ option_and_then (value_at others) (member_at other s.members)
    below s fork e Less c = aside s (λ (same : other ≡ name). absurd (cc (c, ap (λ (k : List ℕ). cmp k name) same, itself name)))
    below s fork e Equal c =
        let same : other ≡ name = exact_bytes other name c in
        ap (λ (k : List ℕ). option_and_then (value_at others) (member_at k (with_member name s.changed s.members))) same
        ∙ ap (option_and_then (value_at others)) (member_there name s.changed s.members)
        ∙ deeper s.members s.changed fork e
        ∙ ap (λ (k : List ℕ). option_and_then (value_at others) (member_at k s.members)) (sym same)
    below s fork e Greater c = aside s (λ (same : other ≡ name). absurd (cc (c, ap (λ (k : List ℕ). cmp k name) same, itself name)))

    at : (name ≢ other) ⊎ Fork names others → (s : Step name names value t n) → (Fork names others → value_at others s.changed ≡ value_at others (on_the_way name s.members))
        → option_and_then (value_at others) (member_at other (with_member name s.changed s.members)) ≡ option_and_then (value_at others) (member_at other s.members)
    at (inl apart) s rec = aside s (λ (same : other ≡ name). apart (sym same))
    at (inr fork) s rec = below s fork (rec fork) (cmp other name) refl

of_map_is : (value : Datum) (made : Members → LogRecord) (after : LogRecord) → of_map value made ≡ Some after → (ms : Members) × (value ≡ fields ms) × (made ms ≡ after)
of_map_is null made after h = absurd (cc h)
of_map_is (boolean b) made after h = absurd (cc h)
of_map_is (int z) made after h = absurd (cc h)
of_map_is (text bytes) made after h = absurd (cc h)
of_map_is (list values) made after h = absurd (cc h)
of_map_is (fields ms) made after h = (ms, refl, cc h)

root_there : (root : Root) (value : Datum) (before after : LogRecord) → with_root root value before ≡ Some after → root_value root after ≡ value
root_there Body value before after h = let e : record before { body = value } ≡ after = cc h in ap (λ (r : LogRecord). r.body) (sym e)
root_there Attributes value before after h =
    let made : Members → LogRecord = λ members. record before { attributes = members } in
    let m = of_map_is value made after h in
    ap (λ (r : LogRecord). fields r.attributes) (sym m.2) ∙ sym m.1
root_there Resource value before after h =
    let made : Members → LogRecord = λ members. record before { resource = members } in
    let m = of_map_is value made after h in
    ap (λ (r : LogRecord). fields r.resource) (sym m.2) ∙ sym m.1

root_elsewhere : (root other : Root) (value : Datum) (before after : LogRecord) → root ≢ other → with_root root value before ≡ Some after → root_value other after ≡ root_value other before
root_elsewhere Body other value before after apart h = let e : record before { body = value } ≡ after = cc h in ap (root_value other) (sym e) ∙ keep other apart
  where
    keep : (other : Root) → Body ≢ other → root_value other (record before { body = value }) ≡ root_value other before
    keep Body apart = absurd (apart refl)
    keep Attributes apart = refl
    keep Resource apart = refl
root_elsewhere Attributes other value before after apart h =
    let made : Members → LogRecord = λ members. record before { attributes = members } in
    let m = of_map_is value made after h in ap (root_value other) (sym m.2) ∙ keep other m.0 apart
  where
    keep : (other : Root) (ms : Members) → Attributes ≢ other → root_value other (record before { attributes = ms }) ≡ root_value other before
    keep Body ms apart = refl
    keep Attributes ms apart = absurd (apart refl)
    keep Resource ms apart = refl
root_elsewhere Resource other value before after apart h =
    let made : Members → LogRecord = λ members. record before { resource = members } in
    let m = of_map_is value made after h in ap (root_value other) (sym m.2) ∙ keep other m.0 apart
  where
    keep : (other : Root) (ms : Members) → Resource ≢ other → root_value other (record before { resource = ms }) ≡ root_value other before
    keep Body ms apart = refl
    keep Attributes ms apart = refl
    keep Resource ms apart = absurd (apart refl)

record Put (place : Place) (value : Datum) (before after : LogRecord) : Type 0 where
  root : Datum
  down : with_value place.names value (root_value place.root before) ≡ Some root
  put : with_root place.root root before ≡ Some after

put_of : (place : Place) (value : Datum) (before after : LogRecord) → set_at place value before ≡ Some after → Put place value before after
put_of place value before after h = by (with_value place.names value (root_value place.root before)) refl h
  where
    by : (r : Option Datum) → with_value place.names value (root_value place.root before) ≡ r → option_and_then (λ root. with_root place.root root before) r ≡ Some after → Put place value before after
    by None e h = absurd (cc h)
    by (Some root) e h = record { root = root; down = e; put = h }

pub put_there : (place : Place) (value : Datum) (before after : LogRecord) → set_at place value before ≡ Some after → datum_at place after ≡ Some value
put_there place value before after h =
    let p = put_of place value before after h in
    ap (value_at place.names) (root_there place.root p.root before after p.put) ∙ value_there place.names value (root_value place.root before) p.root p.down

pub put_elsewhere : (place other : Place) (value : Datum) (before after : LogRecord) → AreApart place other → set_at place value before ≡ Some after → datum_at other after ≡ datum_at other before
put_elsewhere place other value before after apart h = at apart (put_of place value before after h) (same_root place.root other.root)
  where
    aside : (p : Put place value before after) → place.root ≢ other.root → datum_at other after ≡ datum_at other before
    aside p roots = ap (value_at other.names) (root_elsewhere place.root other.root p.root before after roots p.put)

    at : AreApart place other → (p : Put place value before after) → (place.root ≡ other.root) ⊎ (place.root ≢ other.root) → datum_at other after ≡ datum_at other before
    at a p (inr roots) = aside p roots
    at (inl roots) p (inl same) = absurd (roots same)
    at (inr fork) p (inl same) =
        ap (λ (r : Root). value_at other.names (root_value r after)) (sym same)
        ∙ ap (value_at other.names) (root_there place.root p.root before after p.put)
        ∙ value_elsewhere place.names other.names value (root_value place.root before) p.root fork p.down
        ∙ ap (λ (r : Root). value_at other.names (root_value r before)) same
