-- What a tree has come to, call by call.
use Rattle.std.proofs.Common.{◌≡◌, ℕ, ◌+◌, ◌≤◌, List, [], ◌∷◌, ◌++◌, length, true, Some, refl, sym, ap, subst, ◌∙◌, arith}
use Rattle.lifetimes.specs.Course.{GoesBy}
use Rattle.lifetimes.specs.Ended.{history_of}
use Rattle.lifetimes.specs.Inner.Past.{Failures, Waits, IsTreeAt, IsTreePolled, dropped}
use Rattle.file_pass.specs.TreeTerms.{GoesLater}
use Rattle.mem_world.proofs.TreeTelling.{change_told, followed_told, plan_stays, told_stays}
use Rattle.mem_world.specs.MemTree.{state_of, tree_meaning}
use Rattle.mem_world.specs.TreeTold.{TreeState, bound_of, empty_tree, planned_anew, told_plan, told_world, with_failure, unplanned}
use Rattle.mem_world.specs.declared.tree.MemTree.{MemTree}
use Rattle.outside.specs.Plan.{Plan, Follows, HasFollowed}
use Rattle.outside.specs.World.{Event}
use Rattle.poll_core.specs.LeavesTree.{LeavesTree}
use Rattle.std.proofs.lemmas.Option.{same_Some}

abbrev Steps : Type 0
Steps = List (ℕ × Event)

-- what a state says, as IsTreeAt says it of its tree
abbrev pub IsStateAt : Steps → Failures → TreeState → Type 0
IsStateAt plan failures state =
    (state.waiting ≡ plan) × (state.plan ≡ record { steps = plan; since = length state.world.history }) × (state.spare ≡ failures.waiting) × (state.faults + failures.waiting ≤ failures.most) × (state.told ≡ true)

pub state_at : (plan : Steps) (failures : Failures) (tree : MemTree) → IsTreeAt plan failures tree → IsStateAt plan failures (state_of tree)
state_at plan failures tree at = (at.waiting, at.plan_is, at.spare, at.few, at.told)

pub tree_at : (plan : Steps) (failures : Failures) (tree : MemTree) (state : TreeState) → state_of tree ≡ state → IsStateAt plan failures state → IsTreeAt plan failures tree
tree_at plan failures tree state is at =
    let own : IsStateAt plan failures (state_of tree) = subst (IsStateAt plan failures) (sym is) at in
    record { waiting = own.0; plan_is = own.1; spare = own.2; few = own.3; told = own.4 }

-- an empty world
pub tree_begins : (tree : MemTree) → state_of tree ≡ empty_tree → IsTreeAt [] (record { waiting = 0; most = 0 }) tree
tree_begins tree is = tree_at [] (record { waiting = 0; most = 0 }) tree empty_tree is (refl, refl, refl, omega arith, refl)

pub history_begins : (tree : MemTree) → state_of tree ≡ empty_tree → history_of tree ≡ []
history_begins tree is = ap (λ (s : TreeState). s.world.history) is

-- more calls may have failed
pub tree_later : (plan : Steps) (waiting most more : ℕ) (tree : MemTree) → most ≤ more → IsTreeAt plan (record { waiting = waiting; most = most }) tree → IsTreeAt plan (record { waiting = waiting; most = more }) tree
tree_later plan waiting most more tree less at = record { waiting = at.waiting; plan_is = at.plan_is; spare = at.spare; few = omega (arith, less, at.few); told = at.told }

module _ (plan : Steps) (failures : Failures) (tree tree_after : MemTree) (at : IsTreeAt plan failures tree) where
  -- a step that was played
  pub tree_stepped : (event : Event) → state_of tree_after ≡ planned_anew (state_of tree) (event ∷ (state_of tree).world.history) (state_of tree).waiting → IsTreeAt plan failures tree_after
  tree_stepped event is =
      tree_at plan failures tree_after (planned_anew (state_of tree) (event ∷ (state_of tree).world.history) (state_of tree).waiting) is
      (at.waiting, ap (λ (w : Steps). record { steps = w; since = length (event ∷ (state_of tree).world.history) }) at.waiting, at.spare, at.few, at.told)

  -- a step that waits
  pub tree_planned : (calls : ℕ) (event : Event) → state_of tree_after ≡ planned_anew (state_of tree) (state_of tree).world.history ((state_of tree).waiting ++ (calls, event) ∷ []) → IsTreeAt (plan ++ (calls, event) ∷ []) failures tree_after
  tree_planned calls event is =
      tree_at (plan ++ (calls, event) ∷ []) failures tree_after (planned_anew (state_of tree) (state_of tree).world.history ((state_of tree).waiting ++ (calls, event) ∷ [])) is
      (ap (λ (w : Steps). w ++ (calls, event) ∷ []) at.waiting, ap (λ (w : Steps). record { steps = w ++ (calls, event) ∷ []; since = length (state_of tree).world.history }) at.waiting, at.spare, at.few, at.told)

  -- a call that is to fail
  pub tree_failing : (call : ℕ) → state_of tree_after ≡ with_failure (state_of tree) call → IsTreeAt plan (record { waiting = failures.waiting + 1; most = failures.most + 1 }) tree_after
  tree_failing call is =
      tree_at plan (record { waiting = failures.waiting + 1; most = failures.most + 1 }) tree_after (with_failure (state_of tree) call) is
      (at.waiting, at.plan_is, ap (λ (n : ℕ). n + 1) at.spare, omega (arith, at.few), at.told)

pub history_stepped : (event : Event) (tree tree_after : MemTree) → state_of tree_after ≡ planned_anew (state_of tree) (event ∷ (state_of tree).world.history) (state_of tree).waiting → history_of tree_after ≡ event ∷ history_of tree
history_stepped event tree tree_after is = ap (λ (s : TreeState). s.world.history) is

pub history_planned : (calls : ℕ) (event : Event) (tree tree_after : MemTree) → state_of tree_after ≡ planned_anew (state_of tree) (state_of tree).world.history ((state_of tree).waiting ++ (calls, event) ∷ []) → history_of tree_after ≡ history_of tree
history_planned calls event tree tree_after is = ap (λ (s : TreeState). s.world.history) is

pub history_failing : (call : ℕ) (tree tree_after : MemTree) → state_of tree_after ≡ with_failure (state_of tree) call → history_of tree_after ≡ history_of tree
history_failing call tree tree_after is = ap (λ (s : TreeState). s.world.history) is

-- nothing waits any more
pub tree_cleared : (failures : Failures) (tree tree_after : MemTree) → state_of tree_after ≡ unplanned (state_of tree) → (state_of tree).told ≡ true → (state_of tree).faults ≤ failures.most → IsTreeAt [] (dropped failures) tree_after
tree_cleared failures tree tree_after is told few = tree_at [] (dropped failures) tree_after (unplanned (state_of tree)) is (refl, refl, refl, omega (arith, few), told)

pub history_cleared : (tree tree_after : MemTree) → state_of tree_after ≡ unplanned (state_of tree) → history_of tree_after ≡ history_of tree
history_cleared tree tree_after is = ap (λ (s : TreeState). s.world.history) is

-- ---- polls

-- A poll keeps the tree's plan, and then what it didn't reach is dropped.
pub tree_polled : (waits : Waits) (tree polled cleared : MemTree) → LeavesTree tree_meaning tree polled → HasFollowed (told_plan (state_of polled)) (told_world (state_of polled)) → (state_of polled).faults ≤ bound_of (state_of polled)
    → state_of cleared ≡ unplanned (state_of polled) → IsTreeAt waits.plan waits.tree tree → IsTreePolled waits tree cleared
tree_polled waits tree polled cleared keeps followed within is at =
    let told : (state_of polled).told ≡ true = told_stays (state_of tree) (state_of polled) at.told keeps.plan in
    let same : (state_of polled).plan ≡ (state_of tree).plan = plan_stays (state_of tree) (state_of polled) at.told keeps.plan in
    let bound : bound_of (state_of polled) ≡ bound_of (state_of tree) = same_Some (bound_of (state_of polled)) (bound_of (state_of tree)) keeps.bound in
    let goes : GoesBy waits.plan (history_of tree) (history_of polled) = record {
      later = change_told GoesLater (state_of tree) (state_of polled) at.told told keeps.later;
      follows = subst (λ (p : Plan). Follows p (history_of polled)) (same ∙ at.plan_is) (followed_told (state_of polled) told followed).1;
    } in
    let faults_are : (state_of cleared).faults ≡ (state_of polled).faults = ap (λ (s : TreeState). s.faults) is in
    record {
      goes = subst (GoesBy waits.plan (history_of tree)) (sym (history_cleared polled cleared is)) goes;
      at = tree_cleared waits.tree polled cleared is told (omega (arith, within, bound, at.spare, at.few));
      later = omega (arith, faults_are, keeps.faults.later);
      few = omega (arith, faults_are, within, bound, at.spare);
    }
