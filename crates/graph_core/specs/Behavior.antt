use Rattle.std.specs.Prelude.{◌≡◌, ℕ, Bool, List}

-- What a step does, as functions: its start state, the state after an item, what it emits for an item,
-- and what it emits as it is closed. An emission is a port and an item.
pub record Behavior (State Item : Type 0) : Type 0 where
  pub first : State
  pub after : State → Item → State
  pub emitted : State → Item → List (ℕ × Item)
  pub closed : State → List (ℕ × Item)

-- the step begins with a state of this sort, and behind each item one of this sort stays one
pub record KeepsSort {State Item : Type 0} (sort : State → Bool) (wanted : Bool) (behavior : Behavior State Item) : Type 0 where
  pub first : sort behavior.first ≡ wanted
  pub after : (state : State) (item : Item) → sort state ≡ wanted → sort (behavior.after state item) ≡ wanted
