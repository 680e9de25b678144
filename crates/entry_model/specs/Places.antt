-- Where a name stands among members in ascending byte order.
use Rattle.std.specs.Prelude.{◌≡◌, ℕ, zero, suc, List, [], ◌∷◌, ⊤}
use Rattle.std.specs.Cmp.Lexicographic.{slice_cmp}
use Rattle.std.specs.List.Sorted.{IsStrictlySortedBy}
use Rattle.std.specs.Map.{keys_of}
use Rattle.std.specs.Ordering.{nat_cmp}
use Rattle.std.specs.declared.cmp.Ordering.{Ordering}
use Rattle.std.specs.declared.cmp.Ordering.TheVariants.{Less, Equal, Greater}

-- the byte order of names
abbrev pub name_cmp : List ℕ → List ℕ → Ordering
name_cmp = slice_cmp nat_cmp

module _ {X : Type 0} where
  -- the names ascend, so that none stands twice
  abbrev pub NamesAscend : List (List ℕ × X) → Type 0
  NamesAscend es = IsStrictlySortedBy name_cmp (keys_of es)

  -- the name stands at this place, behind lesser ones
  abbrev pub StandsAt : List ℕ → List (List ℕ × X) → ℕ → Type 0
  StandsAt name [] at = ⊥
  StandsAt name (e ∷ es) zero = name_cmp name e.0 ≡ Equal
  StandsAt name (e ∷ es) (suc at) = (name_cmp name e.0 ≡ Greater) × StandsAt name es at

  -- the name would stand at this place, behind lesser ones and ahead of a greater one, if any
  abbrev pub FitsAt : List ℕ → List (List ℕ × X) → ℕ → Type 0
  FitsAt name [] zero = ⊤
  FitsAt name [] (suc at) = ⊥
  FitsAt name (e ∷ es) zero = name_cmp name e.0 ≡ Less
  FitsAt name (e ∷ es) (suc at) = (name_cmp name e.0 ≡ Greater) × FitsAt name es at

  -- the members with another value at this place
  abbrev pub value_set_at : List (List ℕ × X) → ℕ → X → List (List ℕ × X)
  value_set_at [] at value = []
  value_set_at (e ∷ es) zero value = (e.0, value) ∷ es
  value_set_at (e ∷ es) (suc at) value = e ∷ value_set_at es at value
