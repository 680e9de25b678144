-- What tells places apart in a proof.
use Rattle.std.specs.Prelude.{◌≡◌, ◌⊎◌, ℕ, List, refl}
use Rattle.std.specs.Coded.{Coded, code_by, coded_ℕ, coded_list, coded×, coded⊎}
use base.Stored.{coded_unit}
use mathlib.Core.Logic.{inl, inr}
use Rattle.field_paths.specs.Place.{Place}
use Rattle.field_paths.specs.declared.path.Root.{Root}
use Rattle.field_paths.specs.declared.path.Root.TheVariants.{Body, Attributes, Resource}

abbrev pub Roots : Type 0
Roots = Unit {0} ⊎ Unit {0} ⊎ Unit {0}

abbrev pub root_case : Root → Roots
root_case Body = inl tt
root_case Attributes = inr (inl tt)
root_case Resource = inr (inr tt)

abbrev pub root : Roots → Root
root (inl _) = Body
root (inr (inl _)) = Attributes
root (inr (inr _)) = Resource

pub root_back : (r : Root) → root (root_case r) ≡ r
root_back Body = refl
root_back Attributes = refl
root_back Resource = refl

abbrev pub root_code : Coded Root
root_code = code_by Roots (coded⊎ coded_unit (coded⊎ coded_unit coded_unit)) root_case root root_back

abbrev pub place_code : Coded Place
place_code = code_by (Root × List (List ℕ)) (coded× root_code (coded_list (coded_list coded_ℕ)))
    (λ p. (p.root, p.names)) (λ p. record { root = p.0; names = p.1 }) (λ _. refl)
