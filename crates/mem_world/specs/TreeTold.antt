-- What a tree in memory tells.
use Rattle.std.specs.Prelude.{ℕ, ◌+◌, List, [], ◌∷◌, ◌++◌, ◌≤◌, length, Bool, true, false, if◌then◌else◌, Option, None, Some}
use Rattle.outside.specs.World.{Event, World}
use Rattle.outside.specs.Lawful.{IsLawful, TellsLawful}
use Rattle.outside.specs.Plan.{Plan, Follows, HasFollowed}
use Rattle.mem_world.specs.TreePlan.{Pairs}

pub record TreeState : Type 0 where
  -- whether the tree tells its world and its plan: it does until a file is spoiled
  pub told : Bool
  pub world : World
  -- the steps that are still to be played, each with the number of calls before it, in the order in which they came
  pub waiting : Pairs
  pub plan : Plan
  -- how often the tree has failed, and how much that may still rise
  pub faults : ℕ
  pub spare : ℕ
  -- the calls that are set to fail, from now: 1 is the next, and 0 stands for one that was reached
  pub failing : List ℕ
  -- the number of bytes that were read
  pub taken : ℕ
  -- the length of the longest buffer that a read was given
  pub widest : ℕ
  -- the folders that were listed or could not be, the newest first
  pub listed : List (List ℕ)

-- what the count of faults never passes
abbrev pub bound_of : TreeState → ℕ
bound_of tree = tree.faults + tree.spare

-- the world, where it is told
abbrev pub told_world : TreeState → Option World
told_world tree = if tree.told then Some tree.world else None

-- the plan, where it is told
abbrev pub told_plan : TreeState → Option Plan
told_plan tree = if tree.told then Some tree.plan else None

-- an empty world, of which nothing is planned
abbrev pub empty_tree : TreeState
empty_tree = record {
  told = true;
  world = record { history = []; handles = [] };
  waiting = [];
  plan = record { steps = []; since = 0 };
  faults = 0;
  spare = 0;
  failing = [];
  taken = 0;
  widest = 0;
  listed = [];
}

-- the history is this one, and the plan is the steps that wait now
abbrev pub planned_anew : TreeState → List Event → Pairs → TreeState
planned_anew tree history waiting = record tree {
  world = record { history = history; handles = tree.world.handles };
  waiting = waiting;
  plan = record { steps = waiting; since = length history };
}

-- the call with this number was set to fail
abbrev pub with_failure : TreeState → ℕ → TreeState
with_failure tree call = record tree { spare = tree.spare + 1; failing = tree.failing ++ call ∷ [] }

-- nothing is planned
abbrev pub unplanned : TreeState → TreeState
unplanned tree = record (planned_anew tree tree.world.history []) { spare = 0; failing = [] }

-- what is told keeps the laws of a tree
pub tells_lawful : (tree : TreeState) → IsLawful tree.world.history → TellsLawful (told_world tree)
tells_lawful tree lawful = elim tree.told as (λ t. TellsLawful (if t then Some tree.world else None)) [ true ↦ lawful | false ↦ tt ]

pub tells_followed : (tree : TreeState) → (tree.plan.since ≤ length tree.world.history) × Follows tree.plan tree.world.history → HasFollowed (told_plan tree) (told_world tree)
tells_followed tree followed = elim tree.told as (λ t. HasFollowed (if t then Some tree.plan else None) (if t then Some tree.world else None)) [ true ↦ followed | false ↦ tt ]
