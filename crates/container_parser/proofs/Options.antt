-- What an option that was made of another was made of.
use Rattle.std.proofs.Common.{◌≡◌, Option, None, Some, refl, rules}
use Rattle.std.specs.Prelude.{option_map, option_and_then, Bool, true, false, if◌then◌else◌}

pub none_some : {A : Type 0} (x : A) → ◌≡◌ {A = Option A} None (Some x) → ⊥
none_some x e = search (rules, e)

pub same_some : {A : Type 0} (x y : A) → ◌≡◌ {A = Option A} (Some x) (Some y) → x ≡ y
same_some x y e = search (rules, e)

pub then_from : {A B : Type 0} (f : A → Option B) (o : Option A) (y : B) → option_and_then f o ≡ Some y → (x : A) × (o ≡ Some x) × (f x ≡ Some y)
then_from f None y e = absurd (none_some y e)
then_from f (Some x) y e = (x, refl, e)

pub map_from : {A B : Type 0} (f : A → B) (o : Option A) (y : B) → option_map f o ≡ Some y → (x : A) × (o ≡ Some x) × (f x ≡ y)
map_from f None y e = absurd (none_some y e)
map_from f (Some x) y e = (x, refl, same_some (f x) y e)

pub when_so : {A : Type 0} (b : Bool) (x y : A) → (if b then Some x else None) ≡ Some y → (b ≡ true) × (x ≡ y)
when_so true x y e = (refl, same_some x y e)
when_so false x y e = absurd (none_some y e)
