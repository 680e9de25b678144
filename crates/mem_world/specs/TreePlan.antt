-- What was played of a plan, and what is left of it.
use Rattle.std.specs.Prelude.{◌≡◌, ℕ, ◌+◌, ◌-◌, ◌<◌, ◌≤◌, ◌⊎◌, List, [], ◌∷◌, ◌++◌, length, map, take, drop, filter, slice_get, All, false, not, ◌==◌, if◌then◌else◌, Some, IsTrue}
use Rattle.outside.specs.World.{Event, History}
use Rattle.outside.specs.Lawful.{is_lawful}
use Rattle.outside.specs.Plan.{Plan, by_number, is_own, MayPass}
use Rattle.mem_world.specs.WorldSteps.{added_by}

abbrev pub Pairs : Type 0
Pairs = List (ℕ × Event)

-- the steps that are due after so many calls
abbrev pub due_at : ℕ → Pairs → List Event
due_at calls pairs = map (λ pair. pair.1) (filter (λ pair. pair.0 == calls) pairs)

abbrev pub not_due_at : ℕ → Pairs → Pairs
not_due_at calls pairs = filter (λ pair. not (pair.0 == calls)) pairs

-- the steps are played in turn, and those that aren't lawful are skipped
abbrev pub played : History → List Event → History
played history [] = history
played history (step ∷ steps) = played (if is_lawful history step then step ∷ history else history) steps

-- with the number of calls that are left after so many
abbrev pub left_after : ℕ → Pairs → Pairs
left_after calls pairs = map (λ pair. (pair.0 - calls, pair.1)) pairs

-- how many bytes the steps append to the file
abbrev pub wanted : Pairs → ℕ → ℕ
wanted [] file = 0
wanted (pair ∷ pairs) file = length (added_by pair.1 file) + wanted pairs file

abbrev pub own_count : List Event → ℕ
own_count [] = 0
own_count (event ∷ before) = if is_own event then own_count before + 1 else own_count before

-- From this history on the events, the newest first, follow the pairs, and leave those that are left.
abbrev pub Ran : History → Pairs → List Event → Pairs → Type 0
Ran base pairs [] left = left ≡ pairs
Ran base pairs (event ∷ before) left =
    (earlier : Pairs) × (passed : ℕ) × Ran base pairs before earlier × All (MayPass (before ++ base) (own_count before)) (take passed earlier)
    × ((IsTrue (is_own event) × (left ≡ drop passed earlier))
    ⊎ ((is_own event ≡ false) × ((due : ℕ) × (slice_get earlier passed ≡ Some (due, event)) × (own_count before ≤ due) × (left ≡ drop (passed + 1) earlier))))

-- no plan has a number as large
abbrev pub last_call : ℕ
last_call = 4294967296

-- The history has followed the plan so far. Some steps were skipped since its last event, and these pairs wait.
pub record Behind (plan : Plan) (history : History) (calls : ℕ) (waiting : Pairs) : Type 0 where
  pub base : History
  pub added : List Event
  pub history_is : history ≡ added ++ base
  pub since_is : length base ≡ plan.since
  pub left : Pairs
  pub ran : Ran base (by_number plan.steps) added left
  pub skipped : Pairs
  pub passed : All (MayPass (added ++ base) (own_count added)) skipped
  pub left_is : left ≡ skipped ++ by_number waiting
  pub early : calls < last_call → own_count added ≤ calls
  pub ahead : All (λ pair. (calls ≤ pair.0) × (pair.0 < last_call)) waiting

-- the agent's own events since the plan was set
abbrev pub own_since : Plan → History → ℕ
own_since plan history = own_count (take (length history - plan.since) history)
