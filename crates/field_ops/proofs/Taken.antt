-- What is at other places after a value was taken.
use Rattle.std.proofs.Common.{◌≡◌, ◌≢◌, ℕ, List, [], ◌∷◌, ◌∙◌, ap, sym, Option, Some, inl, inr, ◌⊎◌}
use Rattle.std.specs.Option.{option_and_then, unwrap_or}
use Rattle.entry_model.specs.Datum.{Datum, null, Members}
use Rattle.entry_model.specs.LogRecord.{LogRecord, members_in}
use Rattle.field_paths.proofs.Members.{same_or_not, member_there, member_elsewhere, left_elsewhere}
use Rattle.field_paths.proofs.Ways.{OnTheWay, on_way, same_root, other_root, own_root}
use Rattle.field_paths.specs.AreApart.{AreApart, Fork}
use Rattle.field_paths.specs.Change.{on_the_way, without_value, taken, take_at}
use Rattle.field_paths.specs.Members.{member_at, with_member}
use Rattle.field_paths.specs.Place.{Place}
use Rattle.field_paths.specs.ValueAt.{value_at, root_value, datum_at}
use Rattle.field_paths.specs.declared.path.Root.{Root}

taken_elsewhere : (name : List ℕ) (names others : List (List ℕ)) (value target : Datum) → Fork (name ∷ names) others → value_at (name ∷ names) target ≡ Some value
    → value_at others (without_value name names target) ≡ value_at others target
taken_elsewhere name names [] value target fork there = absurd fork
taken_elsewhere name [] (other ∷ others) value target (inl apart) there =
    ap (option_and_then (value_at others)) (left_elsewhere name other (members_in target) (λ (same : other ≡ name). apart (sym same)))
taken_elsewhere name [] (other ∷ others) value target (inr fork) there = absurd fork
taken_elsewhere name (next ∷ names) (other ∷ others) value target fork there =
    at (λ fork below value down. taken_elsewhere next names others value below fork down) fork (same_or_not other name)
  where
    Below : Type 0
    Below = Fork (next ∷ names) others → (below : Datum) (value : Datum) → value_at (next ∷ names) below ≡ Some value → value_at others (without_value next names below) ≡ value_at others below

    ms : Members
    ms = members_in target

    changed : Datum
    changed = without_value next names (on_the_way name ms)

    way : OnTheWay name (next ∷ names) value ms
    way = on_way name (next ∷ names) value ms there

    met : on_the_way name ms ≡ way.below
    met = ap (λ (o : Option Datum). unwrap_or o null) way.there

    aside : other ≢ name → option_and_then (value_at others) (member_at other (with_member name changed ms)) ≡ option_and_then (value_at others) (member_at other ms)
    aside apart = ap (option_and_then (value_at others)) (member_elsewhere name other changed ms apart)

    deeper : Below → other ≡ name → Fork (next ∷ names) others → option_and_then (value_at others) (member_at other (with_member name changed ms)) ≡ option_and_then (value_at others) (member_at other ms)
    deeper rest same fork =
        ap (λ (k : List ℕ). option_and_then (value_at others) (member_at k (with_member name changed ms))) same
        ∙ ap (option_and_then (value_at others)) (member_there name changed ms)
        ∙ rest fork (on_the_way name ms) value (ap (value_at (next ∷ names)) met ∙ way.down)
        ∙ ap (value_at others) met
        ∙ ap (option_and_then (value_at others)) (sym way.there)
        ∙ ap (λ (k : List ℕ). option_and_then (value_at others) (member_at k ms)) (sym same)

    at : Below → (name ≢ other) ⊎ Fork (next ∷ names) others → (other ≡ name) ⊎ (other ≢ name) → option_and_then (value_at others) (member_at other (with_member name changed ms)) ≡ option_and_then (value_at others) (member_at other ms)
    at rest f (inr apart) = aside apart
    at rest (inl apart) (inl same) = absurd (apart (sym same))
    at rest (inr fork) (inl same) = deeper rest same fork

pub leaves_others : (place other : Place) (value : Datum) (entry : LogRecord) → AreApart place other → datum_at place entry ≡ Some value → datum_at other (take_at place entry) ≡ datum_at other entry
leaves_others place other value entry apart there = at apart (same_root place.root other.root)
  where
    within : (names : List (List ℕ)) → Fork names other.names → value_at names (root_value place.root entry) ≡ Some value
        → value_at other.names (root_value place.root (taken place.root names entry)) ≡ value_at other.names (root_value place.root entry)
    within [] fork down = absurd fork
    within (name ∷ names) fork down =
        ap (value_at other.names) (own_root place.root name names entry) ∙ taken_elsewhere name names other.names value (root_value place.root entry) fork down

    at : AreApart place other → (place.root ≡ other.root) ⊎ (place.root ≢ other.root) → datum_at other (take_at place entry) ≡ datum_at other entry
    at a (inr roots) = ap (value_at other.names) (other_root place.root other.root place.names entry roots)
    at (inl roots) (inl same) = absurd (roots same)
    at (inr fork) (inl same) =
        ap (λ (r : Root). value_at other.names (root_value r (take_at place entry))) (sym same)
        ∙ within place.names fork there
        ∙ ap (λ (r : Root). value_at other.names (root_value r entry)) same
