-- What holds of each era.
use Rattle.std.proofs.Common.{◌≡◌, ℕ, zero, suc, List, [], ◌∷◌, Some, None, length, refl, ap, subst}
use Rattle.std.specs.List.{All}
use Rattle.std.specs.Prelude.{slice_get, Option}
use Rattle.std.proofs.lemmas.List.Elements.{All-head, All-tail}
use Rattle.standing.specs.AreRules.{AreRules}
use Rattle.standing.specs.Eras.{Eras, AreEras, all_eras, era_at, era_count, last_era, last_of}
use Rattle.standing.specs.Rules.{Rules}

at_place : {A : Type 0} (P : A → Type 0) (xs : List A) (k : ℕ) (x : A) → All P xs → slice_get xs k ≡ Some x → P x
at_place P [] k x all is = absurd (let never : None ≡ Some x = is in cc)
at_place P (y ∷ xs) zero x all is = subst P (cc is) (All-head P y xs all)
at_place P (y ∷ xs) (suc k) x all is = at_place P xs k x (All-tail P y xs all) is

at_last : (P : Rules → Type 0) (first : Rules) (later : List Rules) → All P (first ∷ later) → P (last_of first later)
at_last P first [] all = All-head P first [] all
at_last P first (next ∷ later) all = at_last P next later (All-tail P first (next ∷ later) all)

none_some : {A : Type 0} (x : A) → ◌≡◌ {A = Option A} None (Some x) → ⊥
none_some x is = cc is

pub of_era : (eras : Eras) (P : Rules → Type 0) → All P (all_eras eras) → (era : ℕ) (found : Rules) → era_at eras era ≡ Some found → P found
of_era eras P all zero found is = absurd (none_some found is)
of_era eras P all (suc n) found is = at_place P (all_eras eras) n found all is

pub era_laws : (eras : Eras) → AreEras eras → (era : ℕ) (rules : Rules) → era_at eras era ≡ Some rules → AreRules rules
era_laws eras laws era rules is = of_era eras AreRules laws.each era rules is

pub last_laws : (eras : Eras) → AreEras eras → AreRules (last_era eras)
last_laws eras laws = at_last AreRules eras.first eras.later laws.each

pub last_size : (eras : Eras) → AreEras eras → (last_era eras).front_size ≡ eras.first.front_size
last_size eras laws = at_last (λ (r : Rules). r.front_size ≡ eras.first.front_size) eras.first eras.later laws.one_front_size

pub last_line : (eras : Eras) → AreEras eras → (last_era eras).line ≡ eras.first.line
last_line eras laws = at_last (λ (r : Rules). r.line ≡ eras.first.line) eras.first eras.later laws.one_line

-- the first poll stands in the first era
pub only_era : (eras : Eras) → eras.later ≡ [] → last_era eras ≡ eras.first
only_era eras none = ap (last_of eras.first) none

-- the last of the eras is the one with their number
pub last_at : (eras : Eras) → era_at eras (era_count eras) ≡ Some (last_era eras)
last_at eras = by eras.first eras.later
  where
    by : (first : Rules) (later : List Rules) → slice_get (first ∷ later) (length later) ≡ Some (last_of first later)
    by first [] = refl
    by first (next ∷ later) = by next later
