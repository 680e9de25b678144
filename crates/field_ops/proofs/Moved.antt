-- A value that is put before it is taken, or without being taken.
use Rattle.std.proofs.Common.{◌≡◌, ◌≢◌, ◌∙◌, ap, sym, refl, inl, inr, ℕ, List, [], ◌∷◌}
use Rattle.std.specs.Prelude.{Option, None, Some, Ok, Err}
use Rattle.std.specs.Option.{option_map}
use Rattle.entry_model.specs.Datum.{Datum}
use Rattle.entry_model.specs.LogRecord.{LogRecord}
use Rattle.field_paths.proofs.Above.{above_replaces}
use Rattle.field_paths.proofs.EitherOrder.{either_order}
use Rattle.field_paths.proofs.Places.{put_elsewhere}
use Rattle.field_paths.specs.AreApart.{AreApart, Fork}
use Rattle.field_paths.specs.Change.{set_at, take_at}
use Rattle.field_paths.specs.InOrder.{IsInOrder}
use Rattle.field_paths.specs.Place.{Place}
use Rattle.field_paths.specs.Relates.{Relates}
use Rattle.field_paths.specs.ValueAt.{datum_at}
use Rattle.field_paths.specs.declared.path.SetFault.{SetFault}
use Rattle.field_paths.specs.declared.path.SetFault.TheVariants as set
use Rattle.field_paths.specs.declared.relation.Relation.TheVariants.{Below}
use Rattle.field_ops.specs.Faults.{of_set_fault}
use Rattle.field_ops.specs.Outcome.{where_found, or_refused}
use Rattle.field_ops.specs.Rows.{moved, copied}
use Rattle.field_ops.specs.declared.fault.FieldFault.TheVariants.{Memory}

fork_back : (names others : List (List ℕ)) → Fork names others → Fork others names
fork_back [] others fork = absurd fork
fork_back (name ∷ names) [] fork = absurd fork
fork_back (name ∷ names) (other ∷ others) (inl apart) = inl (λ same. apart (sym same))
fork_back (name ∷ names) (other ∷ others) (inr fork) = inr (fork_back names others fork)

apart_back : (place other : Place) → AreApart place other → AreApart other place
apart_back place other (inl roots) = inl (λ same. roots (sym same))
apart_back place other (inr fork) = inr (fork_back place.names other.names fork)

-- what is put leaves what is to be taken
pub still_there : (from to : Place) (value found : Datum) (before mid : LogRecord) → AreApart from to → datum_at from before ≡ Some found
    → set_at to value before ≡ Some mid → datum_at from mid ≡ Some found
still_there from to value found before mid apart there put = put_elsewhere to from value before mid (apart_back from to apart) put ∙ there

-- what becomes of a value that is put where it is taken from a place apart
put_and_taken : (from to : Place) (value : Datum) (before : LogRecord) → IsInOrder from before → AreApart from to → datum_at from before ≡ Some value
    → moved from to before ≡ or_refused (option_map (take_at from) (set_at to value before))
put_and_taken from to value before order apart there =
    ap (λ (o : Option Datum). where_found o (λ v. or_refused (set_at to v (take_at from before)))) there
    ∙ ap or_refused (either_order from to value value before order apart there)

pub moved_apart : (from to : Place) (value : Datum) (before mid after : LogRecord) → IsInOrder from before → AreApart from to → datum_at from before ≡ Some value
    → set_at to value before ≡ Some mid → after ≡ take_at from mid → moved from to before ≡ Ok after
moved_apart from to value before mid after order apart there put took =
    put_and_taken from to value before order apart there ∙ ap (λ (o : Option LogRecord). or_refused (option_map (take_at from) o)) put ∙ ap Ok (sym took)

pub refused_apart : (from to : Place) (value : Datum) (before : LogRecord) → IsInOrder from before → AreApart from to → datum_at from before ≡ Some value
    → (given : SetFault) → (given ≡ set.NotAMap → set_at to value before ≡ None) → of_set_fault given ≢ Memory → moved from to before ≡ Err (of_set_fault given)
refused_apart from to value before order apart there set.NotAMap refused known =
    put_and_taken from to value before order apart there ∙ ap (λ (o : Option LogRecord). or_refused (option_map (take_at from) o)) (refused refl)
refused_apart from to value before order apart there set.Memory refused known = absurd (known refl)

-- a value that is put above its place goes away with what it replaces
pub moved_over : (from to : Place) (before : LogRecord) → Relates Below from to → moved from to before ≡ copied from to before
moved_over from to before below = by (datum_at from before) (λ (value : Datum) is. above_replaces from to value value before below is)
  where
    by : (found : Option Datum) → ((value : Datum) → found ≡ Some value → set_at to value (take_at from before) ≡ set_at to value before)
        → where_found found (λ v. or_refused (set_at to v (take_at from before))) ≡ where_found found (λ v. or_refused (set_at to v before))
    by None replaces = refl
    by (Some value) replaces = ap or_refused (replaces value refl)
