-- An entry with some roots of another, and what is put into those.
use Rattle.std.proofs.Common.{◌≡◌, List, [], ◌∷◌, ◌∙◌, ap, sym, refl}
use Rattle.std.specs.Prelude.{Bool, true, false, cond, ◌||◌, Option, None, Some, unwrap_or}
use Rattle.std.specs.Option.{option_and_then}
use Rattle.entry_model.specs.Datum.{Datum, null, boolean, int, text, list, fields}
use Rattle.entry_model.specs.LogRecord.{LogRecord}
use Rattle.field_paths.specs.Change.{with_value, with_root, with_empty_map}
use Rattle.field_paths.specs.Place.{Place}
use Rattle.field_paths.specs.ValueAt.{root_value, datum_at}
use Rattle.field_paths.specs.declared.path.Root.{Root}
use Rattle.field_paths.specs.declared.path.Root.TheVariants.{Body, Attributes, Resource}
use Rattle.field_ops.specs.Roots.{no_fields, is_body, is_attributes, is_resource, any_root, with_roots}
use Rattle.field_ops.specs.Rows.{emptied, with_found, with_listed, retained}

abbrev pub Named : Bool → Bool → Bool → Root → Type 0
Named b a r Body = b ≡ true
Named b a r Attributes = a ≡ true
Named b a r Resource = r ≡ true

abbrev pub AllNamed : Bool → Bool → Bool → List Place → Type 0
AllNamed b a r [] = Unit {0}
AllNamed b a r (field ∷ listed) = Named b a r field.root × AllNamed b a r listed

own_root : (b a r : Bool) (root : Root) (kept entry : LogRecord) → Named b a r root → root_value root (with_roots b a r kept entry) ≡ root_value root kept
own_root true a r Body kept entry named = refl
own_root false a r Body kept entry named = absurd (cc named)
own_root b true r Attributes kept entry named = refl
own_root b false r Attributes kept entry named = absurd (cc named)
own_root b a true Resource kept entry named = refl
own_root b a false Resource kept entry named = absurd (cc named)

put_root : (b a r : Bool) (root : Root) (d : Datum) (kept entry : LogRecord) → Named b a r root
    → with_roots b a r (unwrap_or (with_root root d kept) kept) entry ≡ unwrap_or (with_root root d (with_roots b a r kept entry)) (with_roots b a r kept entry)
put_root true a r Body d kept entry named = refl
put_root false a r Body d kept entry named = absurd (cc named)
put_root b true r Attributes null kept entry named = refl
put_root b true r Attributes (boolean x) kept entry named = refl
put_root b true r Attributes (int z) kept entry named = refl
put_root b true r Attributes (text bytes) kept entry named = refl
put_root b true r Attributes (list items) kept entry named = refl
put_root b true r Attributes (fields ms) kept entry named = refl
put_root b false r Attributes d kept entry named = absurd (cc named)
put_root b a true Resource null kept entry named = refl
put_root b a true Resource (boolean x) kept entry named = refl
put_root b a true Resource (int z) kept entry named = refl
put_root b a true Resource (text bytes) kept entry named = refl
put_root b a true Resource (list items) kept entry named = refl
put_root b a true Resource (fields ms) kept entry named = refl
put_root b a false Resource d kept entry named = absurd (cc named)

found_in_root : (b a r : Bool) (field : Place) (v : Option Datum) (kept entry : LogRecord) → Named b a r field.root
    → with_roots b a r (with_found field v kept) entry ≡ with_found field v (with_roots b a r kept entry)
found_in_root b a r field None kept entry named = refl
found_in_root b a r field (Some value) kept entry named =
    through (with_value field.names value (root_value field.root kept))
    ∙ ap (λ (t : Datum). unwrap_or (option_and_then (λ root. with_root field.root root whole) (with_value field.names value t)) whole) (sym (own_root b a r field.root kept entry named))
  where
    whole : LogRecord
    whole = with_roots b a r kept entry

    through : (o : Option Datum) → with_roots b a r (unwrap_or (option_and_then (λ root. with_root field.root root kept) o) kept) entry
        ≡ unwrap_or (option_and_then (λ root. with_root field.root root whole) o) whole
    through None = refl
    through (Some d) = put_root b a r field.root d kept entry named

listed_in_roots : (b a r : Bool) (listed : List Place) (source kept entry : LogRecord) → AllNamed b a r listed
    → with_roots b a r (with_listed listed source kept) entry ≡ with_listed listed source (with_roots b a r kept entry)
listed_in_roots b a r [] source kept entry named = refl
listed_in_roots b a r (field ∷ listed) source kept entry named =
    listed_in_roots b a r listed source (with_found field (datum_at field source) kept) entry named.1
    ∙ ap (with_listed listed source) (found_in_root b a r field (datum_at field source) kept entry named.0)

-- ---- the roots of the listed fields

or_true : (x y : Bool) → y ≡ true → (x || y) ≡ true
or_true true y e = refl
or_true false y e = e

true_or : (x y : Bool) → x ≡ true → (x || y) ≡ true
true_or true y e = refl
true_or false y e = absurd (cc e)

named_more : (x y z b a r : Bool) (root : Root) → Named b a r root → Named (x || b) (y || a) (z || r) root
named_more x y z b a r Body named = or_true x b named
named_more x y z b a r Attributes named = or_true y a named
named_more x y z b a r Resource named = or_true z r named

all_named_more : (x y z b a r : Bool) (listed : List Place) → AllNamed b a r listed → AllNamed (x || b) (y || a) (z || r) listed
all_named_more x y z b a r [] named = tt
all_named_more x y z b a r (field ∷ listed) named = (named_more x y z b a r field.root named.0, all_named_more x y z b a r listed named.1)

first_named : (root : Root) (b a r : Bool) → Named (is_body root || b) (is_attributes root || a) (is_resource root || r) root
first_named Body b a r = refl
first_named Attributes b a r = refl
first_named Resource b a r = refl

pub all_named : (listed : List Place) → AllNamed (any_root is_body listed) (any_root is_attributes listed) (any_root is_resource listed) listed
all_named [] = tt
all_named (field ∷ listed) = (
  first_named field.root (any_root is_body listed) (any_root is_attributes listed) (any_root is_resource listed),
  all_named_more (is_body field.root) (is_attributes field.root) (is_resource field.root) (any_root is_body listed) (any_root is_attributes listed) (any_root is_resource listed) listed (all_named listed),
)

one_emptied : (root : Root) (b a r : Bool) (entry : LogRecord)
    → with_roots b a r no_fields (with_empty_map root entry) ≡ with_roots (is_body root || b) (is_attributes root || a) (is_resource root || r) no_fields entry
one_emptied Body true a r entry = refl
one_emptied Body false a r entry = refl
one_emptied Attributes b true r entry = refl
one_emptied Attributes b false r entry = refl
one_emptied Resource b a true entry = refl
one_emptied Resource b a false entry = refl

all_emptied : (listed : List Place) (entry : LogRecord)
    → emptied listed entry ≡ with_roots (any_root is_body listed) (any_root is_attributes listed) (any_root is_resource listed) no_fields entry
all_emptied [] entry = refl
all_emptied (field ∷ listed) entry =
    all_emptied listed (with_empty_map field.root entry)
    ∙ one_emptied field.root (any_root is_body listed) (any_root is_attributes listed) (any_root is_resource listed) entry

-- what is kept apart, and then put into the entry by whole roots
pub retained_by_roots : (listed : List Place) (before kept after : LogRecord) → kept ≡ with_listed listed before no_fields
    → after ≡ with_roots (any_root is_body listed) (any_root is_attributes listed) (any_root is_resource listed) kept before
    → after ≡ retained listed before
retained_by_roots listed before kept after apart put =
    put
    ∙ ap (λ (k : LogRecord). with_roots (any_root is_body listed) (any_root is_attributes listed) (any_root is_resource listed) k before) apart
    ∙ listed_in_roots (any_root is_body listed) (any_root is_attributes listed) (any_root is_resource listed) listed before no_fields before (all_named listed)
    ∙ ap (with_listed listed before) (sym (all_emptied listed before))

-- the roots that are moved one after another
pub moved_one_by_one : (b a r : Bool) (listed : List Place) (kept before first second after : LogRecord)
    → b ≡ any_root is_body listed → a ≡ any_root is_attributes listed → r ≡ any_root is_resource listed
    → first ≡ record before { body = cond b kept.body before.body }
    → second ≡ record first { attributes = cond a kept.attributes first.attributes }
    → after ≡ record second { resource = cond r kept.resource second.resource }
    → after ≡ with_roots (any_root is_body listed) (any_root is_attributes listed) (any_root is_resource listed) kept before
moved_one_by_one b a r listed kept before first second after bodies attributes resources one two three =
    three
    ∙ ap (λ (s : LogRecord). record s { resource = cond r kept.resource s.resource }) (two ∙ ap (λ (f : LogRecord). record f { attributes = cond a kept.attributes f.attributes }) one)
    ∙ ap (λ (x : Bool). with_roots x a r kept before) bodies
    ∙ ap (λ (x : Bool). with_roots (any_root is_body listed) x r kept before) attributes
    ∙ ap (λ (x : Bool). with_roots (any_root is_body listed) (any_root is_attributes listed) x kept before) resources
