-- What retaining keeps and leaves out.
use Rattle.std.proofs.Common.{◌≡◌, ◌≢◌, ℕ, zero, suc, List, [], ◌∷◌, Some, None, inl, inr, refl, sym, ap, subst, ◌∙◌, rules}
use Rattle.std.specs.Prelude.{All, Option, slice_get, unwrap_or}
use Rattle.std.proofs.lemmas.List.Elements.{All-head, All-tail, All-weaker}
use Rattle.entry_model.specs.Datum.{Datum, fields, no_members}
use Rattle.entry_model.specs.LogRecord.{LogRecord}
use Rattle.field_paths.proofs.Places.{put_elsewhere}
use Rattle.field_paths.specs.AreApart.{AreApart, Fork}
use Rattle.field_paths.specs.Change.{set_at, with_empty_map}
use Rattle.field_paths.specs.Place.{Place}
use Rattle.field_paths.specs.ValueAt.{datum_at, value_at, root_value}
use Rattle.field_paths.specs.declared.path.Root.{Root}
use Rattle.field_paths.specs.declared.path.Root.TheVariants.{Body, Attributes, Resource}
use Rattle.field_ops.specs.Rows.{emptied, with_found, with_listed, retained}

-- ---- roots

another_emptied : (root other : Root) (entry : LogRecord) → root ≢ other → root_value other (with_empty_map root entry) ≡ root_value other entry
another_emptied Body Body entry differ = absurd (differ refl)
another_emptied Body Attributes entry differ = refl
another_emptied Body Resource entry differ = refl
another_emptied Attributes Body entry differ = refl
another_emptied Attributes Attributes entry differ = absurd (differ refl)
another_emptied Attributes Resource entry differ = refl
another_emptied Resource Body entry differ = refl
another_emptied Resource Attributes entry differ = refl
another_emptied Resource Resource entry differ = absurd (differ refl)

pub this_emptied : (root : Root) (entry : LogRecord) → root_value root (with_empty_map root entry) ≡ fields no_members
this_emptied Body entry = refl
this_emptied Attributes entry = refl
this_emptied Resource entry = refl

stays_empty : (root other : Root) (entry : LogRecord) → root_value other entry ≡ fields no_members → root_value other (with_empty_map root entry) ≡ fields no_members
stays_empty Body Body entry is = refl
stays_empty Body Attributes entry is = is
stays_empty Body Resource entry is = is
stays_empty Attributes Body entry is = is
stays_empty Attributes Attributes entry is = refl
stays_empty Attributes Resource entry is = is
stays_empty Resource Body entry is = is
stays_empty Resource Attributes entry is = is
stays_empty Resource Resource entry is = refl

others_emptied : (listed : List Place) (other : Root) (entry : LogRecord) → All (λ (field : Place). field.root ≢ other) listed → root_value other (emptied listed entry) ≡ root_value other entry
others_emptied [] other entry differ = refl
others_emptied (field ∷ listed) other entry differ =
    others_emptied listed other (with_empty_map field.root entry) (All-tail (λ (f : Place). f.root ≢ other) field listed differ)
    ∙ another_emptied field.root other entry (All-head (λ (f : Place). f.root ≢ other) field listed differ)

pub stay_empty : (listed : List Place) (other : Root) (entry : LogRecord) → root_value other entry ≡ fields no_members → root_value other (emptied listed entry) ≡ fields no_members
stay_empty [] other entry is = is
stay_empty (field ∷ listed) other entry is = stay_empty listed other (with_empty_map field.root entry) (stays_empty field.root other entry is)

listed_root_emptied : (listed : List Place) (at : ℕ) (field : Place) (entry : LogRecord) → slice_get listed at ≡ Some field → root_value field.root (emptied listed entry) ≡ fields no_members
listed_root_emptied [] at field entry there = search (rules, there)
listed_root_emptied (first ∷ listed) zero field entry there =
    let same : first ≡ field = search (rules, there) in
    stay_empty listed field.root (with_empty_map first.root entry)
    (subst (λ (f : Place). root_value field.root (with_empty_map f.root entry) ≡ fields no_members) (sym same) (this_emptied field.root entry))
listed_root_emptied (first ∷ listed) (suc at) field entry there = listed_root_emptied listed at field (with_empty_map first.root entry) there

-- ---- fields that are put back

one_apart : (field place : Place) (found : Option Datum) (entry : LogRecord) → AreApart field place → datum_at place (with_found field found entry) ≡ datum_at place entry
one_apart field place None entry apart = refl
one_apart field place (Some value) entry apart = by (set_at field value entry) refl
  where
    by : (after : Option LogRecord) → set_at field value entry ≡ after → datum_at place (unwrap_or after entry) ≡ datum_at place entry
    by None is = refl
    by (Some after) is = put_elsewhere field place value entry after apart is

pub all_apart : (listed : List Place) (place : Place) (whole entry : LogRecord) → All (λ (field : Place). AreApart field place) listed → datum_at place (with_listed listed whole entry) ≡ datum_at place entry
all_apart [] place whole entry apart = refl
all_apart (field ∷ listed) place whole entry apart =
    all_apart listed place whole (with_found field (datum_at field whole) entry) (All-tail (λ (f : Place). AreApart f place) field listed apart)
    ∙ one_apart field place (datum_at field whole) entry (All-head (λ (f : Place). AreApart f place) field listed apart)

-- ---- retaining

pub other_roots_stay : (listed : List Place) (place : Place) (entry : LogRecord) → All (λ (field : Place). field.root ≢ place.root) listed → datum_at place (retained listed entry) ≡ datum_at place entry
other_roots_stay listed place entry differ =
    all_apart listed place entry (emptied listed entry)
    (All-weaker (λ (field : Place). field.root ≢ place.root) (λ (field : Place). AreApart field place) (λ field aside. inl aside) listed differ)
    ∙ ap (value_at place.names) (others_emptied listed place.root entry differ)

no_place_in_nothing : (names others : List (List ℕ)) → Fork names others → value_at others (fields no_members) ≡ None
no_place_in_nothing [] others fork = absurd fork
no_place_in_nothing (name ∷ names) [] fork = absurd fork
no_place_in_nothing (name ∷ names) (other ∷ others) fork = refl

at_place : (P : Place → Type 0) (listed : List Place) (at : ℕ) (field : Place) → slice_get listed at ≡ Some field → All P listed → P field
at_place P [] at field there all = search (rules, there)
at_place P (first ∷ listed) zero field there all = let same : first ≡ field = search (rules, there) in subst P same (All-head P first listed all)
at_place P (first ∷ listed) (suc at) field there all = at_place P listed at field there (All-tail P first listed all)

left_out : (listed : List Place) (at : ℕ) (field place : Place) (entry : LogRecord) → slice_get listed at ≡ Some field → field.root ≡ place.root
    → AreApart field place → All (λ (one : Place). AreApart one place) listed → datum_at place (retained listed entry) ≡ None
left_out listed at field place entry there root (inl differ) apart = absurd (differ root)
left_out listed at field place entry there root (inr fork) apart =
    let empty : root_value place.root (emptied listed entry) ≡ fields no_members = subst (λ (r : Root). root_value r (emptied listed entry) ≡ fields no_members) root (listed_root_emptied listed at field entry there) in
    all_apart listed place entry (emptied listed entry) apart ∙ ap (value_at place.names) empty ∙ no_place_in_nothing field.names place.names fork

pub rest_is_left_out : (listed : List Place) (at : ℕ) (field place : Place) (entry : LogRecord) → slice_get listed at ≡ Some field → field.root ≡ place.root
    → All (λ (one : Place). AreApart one place) listed → datum_at place (retained listed entry) ≡ None
rest_is_left_out listed at field place entry there root apart =
    left_out listed at field place entry there root (at_place (λ (one : Place). AreApart one place) listed at field there apart) apart
