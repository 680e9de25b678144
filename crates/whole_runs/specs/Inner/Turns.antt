-- Which of two lists has the first call by address.
use Rattle.std.specs.Prelude.{◌≡◌, ◌<◌, List, [], ◌∷◌, length}
use Rattle.graph_core.specs.Traces.{Call}
use Rattle.whole_runs.specs.Inner.TakesFirst.{ComesFirst}
use Rattle.whole_runs.specs.declared.ascending.Turn.{Turn}
use Rattle.whole_runs.specs.declared.ascending.Turn.TheVariants.{Front, Back, Both}

-- the first call of the front, where there is one, comes before all of the back; without one the back has none
pub record IsFrontsTurn {Item : Type 0} (front back : List (Call Item)) : Type 0 where
  pub none : front ≡ [] → back ≡ []
  pub first : (call : Call Item) (rest : List (Call Item)) → front ≡ call ∷ rest → ComesFirst call back

-- the same of the back
pub record IsBacksTurn {Item : Type 0} (front back : List (Call Item)) : Type 0 where
  pub none : back ≡ [] → front ≡ []
  pub first : (call : Call Item) (rest : List (Call Item)) → back ≡ call ∷ rest → ComesFirst call front

-- both have calls, and the first ones have one address
pub record HaveOneFirst {Item : Type 0} (front back : List (Call Item)) : Type 0 where
  pub front_some : 0 < length front
  pub back_some : 0 < length back
  pub same : (call other : Call Item) (front_rest back_rest : List (Call Item)) → front ≡ call ∷ front_rest → back ≡ other ∷ back_rest → call.at ≡ other.at

abbrev pub IsTurn : {Item : Type 0} → List (Call Item) → List (Call Item) → Turn → Type 0
IsTurn front back Front = IsFrontsTurn front back
IsTurn front back Back = IsBacksTurn front back
IsTurn front back Both = HaveOneFirst front back
