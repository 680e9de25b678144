-- The first call of two lists.
use Rattle.std.specs.Prelude.{◌≡◌, ℕ, ◌+◌, ◌<◌, true, List, ◌∷◌, ◌++◌, length, slice_index_or}
use Rattle.graph_core.specs.Runs.{IsAscending}
use Rattle.graph_core.specs.Traces.{Call, is_before, by_address}
use Rattle.graph_core.specs.Wiring.{Has}

-- the call at this place has this address
pub record HasAddress {Item : Type 0} (calls : List (Call Item)) (place : ℕ) (at : List ℕ) : Type 0 where
  pub call : Call Item
  pub is : call ≡ slice_index_or calls place call
  pub address : at ≡ call.at

-- the call comes before all of these
abbrev pub ComesFirst : {Item : Type 0} → Call Item → List (Call Item) → Type 0
ComesFirst {Item} call calls = (other : Call Item) → Has calls other → is_before call.at other.at ≡ true

-- The call is the first of both lists by address, and these are left.
pub record TakesFirst {Item : Type 0} (front back : List (Call Item)) (call : Call Item) (front_left back_left : List (Call Item)) : Type 0 where
  pub first : by_address (front ++ back) ≡ call ∷ by_address (front_left ++ back_left)
  pub front_ascends : IsAscending front_left
  pub back_ascends : IsAscending back_left
  pub fewer : length front_left + length back_left < length front + length back
