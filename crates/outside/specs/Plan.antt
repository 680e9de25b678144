-- A plan of steps of others, each with a number of calls, and what it means that a history follows it.
use Rattle.std.specs.Prelude.{◌≡◌, ◌≤◌, ℕ, ◌+◌, ◌-◌, ◌⊎◌, ⊤, List, [], ◌∷◌, length, take, drop, reverse, slice_get, All, Bool, true, false, nat_le, if◌then◌else◌, Option, None, Some, IsTrue}
use Rattle.outside.specs.World.{Event, create, append, rename, remove, look, miss, unlisted, History, World}
use Rattle.outside.specs.Lawful.{is_lawful}

-- Each step is due after so many further calls. `since` is the length that the history had when the plan was set.
pub record Plan : Type 0 where
  pub steps : List (ℕ × Event)
  pub since : ℕ

abbrev pub inserted : ℕ × Event → List (ℕ × Event) → List (ℕ × Event)
inserted pair [] = pair ∷ []
inserted pair (first ∷ rest) = if nat_le pair.0 first.0 then pair ∷ first ∷ rest else first ∷ inserted pair rest

-- by ascending number, equal numbers as they are listed
abbrev pub by_number : List (ℕ × Event) → List (ℕ × Event)
by_number [] = []
by_number (pair ∷ rest) = inserted pair (by_number rest)

-- it came from a call of the agent's
abbrev pub is_own : Event → Bool
is_own (create _ _) = false
is_own (append _ _) = false
is_own (rename _ _) = false
is_own (remove _) = false
is_own (look _) = true
is_own (miss _) = true
is_own (unlisted _) = true

-- Of the pairs left after `read` events of the agent's own, a pair may be passed over while its number isn't below
-- `read` and its step isn't lawful.
abbrev pub MayPass : History → ℕ → ℕ × Event → Type 0
MayPass history read pair = (read ≤ pair.0) × (is_lawful history pair.1 ≡ false)

-- The events, the oldest first, follow the pairs that are left. Some pairs are passed over; then comes an event of
-- the agent's own, or the step of the next pair, whose number isn't below `read`. In the end no pair is overdue.
abbrev pub FollowsPairs : History → ℕ → List (ℕ × Event) → List Event → Type 0
FollowsPairs history read left [] = All (λ pair. read ≤ pair.0) left
FollowsPairs history read left (event ∷ rest) =
    (passed : ℕ) × All (MayPass history read) (take passed left)
    × ((IsTrue (is_own event) × FollowsPairs (event ∷ history) (read + 1) (drop passed left) rest)
    ⊎ ((due : ℕ) × (slice_get left passed ≡ Some (due, event)) × (read ≤ due) × FollowsPairs (event ∷ history) read (drop (passed + 1) left) rest))

-- what the history has past the plan's beginning follows it, in some way
abbrev pub Follows : Plan → History → Type 0
Follows plan history =
    let added = length history - plan.since in
    ∥ FollowsPairs (drop added history) 0 (by_number plan.steps) (reverse (take added history)) ∥₁

-- A plan is told only with a world, whose history has followed it from the moment at which it was set.
abbrev pub HasFollowed : Option Plan → Option World → Type 0
HasFollowed None world = ⊤
HasFollowed (Some plan) None = ⊥
HasFollowed (Some plan) (Some world) = (plan.since ≤ length world.history) × Follows plan world.history
