-- What a tree tells of its state.
use Rattle.std.proofs.Common.{◌≡◌, ◌≤◌, Bool, true, false, length, Option, None, Some, refl, sym, ap, subst, ◌∙◌}
use Rattle.std.specs.Prelude.{if◌then◌else◌}
use Rattle.outside.specs.Lawful.{IsLawful, TellsLawful}
use Rattle.outside.specs.Plan.{Plan, Follows, HasFollowed}
use Rattle.outside.specs.World.{World, Told}
use Rattle.mem_world.specs.TreeTold.{TreeState, told_world, told_plan}

abbrev world_if : Bool → World → Option World
world_if told world = if told then Some world else None

abbrev plan_if : Bool → Plan → Option Plan
plan_if told plan = if told then Some plan else None

-- a change of the world is told where the world is
pub told_change : (change : World → World → Type 0) (old new : TreeState) → new.told ≡ old.told → change old.world new.world → Told change (told_world old) (told_world new)
told_change change old new same changed =
    let P : Bool → Type 0 = λ t. Told change (world_if old.told old.world) (world_if t new.world) in
    let Q : Bool → Type 0 = λ t. Told change (world_if t old.world) (world_if t new.world) in
    let both : Q old.told = elim old.told as Q [ true ↦ changed | false ↦ tt ] in
    subst P (sym same) both

pub told_plan_same : (old new : TreeState) → new.told ≡ old.told → new.plan ≡ old.plan → told_plan new ≡ told_plan old
told_plan_same old new told plan = ap (λ t. plan_if t new.plan) told ∙ ap (λ p. plan_if old.told p) plan

-- ---- a tree that tells

pub world_is_told : (tree : TreeState) → tree.told ≡ true → told_world tree ≡ Some tree.world
world_is_told tree told = ap (λ t. world_if t tree.world) told

pub plan_is_told : (tree : TreeState) → tree.told ≡ true → told_plan tree ≡ Some tree.plan
plan_is_told tree told = ap (λ t. plan_if t tree.plan) told

-- what tells the same plan goes on telling
pub told_stays : (old new : TreeState) → old.told ≡ true → told_plan new ≡ told_plan old → new.told ≡ true
told_stays old new told same =
    let P : Bool → Type 0 = λ t. plan_if t new.plan ≡ Some old.plan → t ≡ true in
    let all : P new.told = elim new.told as P [ true ↦ λ _. refl | false ↦ λ none. absurd (cc) ] in
    all (same ∙ plan_is_told old told)

pub plan_stays : (old new : TreeState) → old.told ≡ true → told_plan new ≡ told_plan old → new.plan ≡ old.plan
plan_stays old new told same =
    let some : ◌≡◌ {A = Option Plan} (Some new.plan) (Some old.plan) = sym (plan_is_told new (told_stays old new told same)) ∙ same ∙ plan_is_told old told in
    cc

pub change_told : (change : World → World → Type 0) (old new : TreeState) → old.told ≡ true → new.told ≡ true → Told change (told_world old) (told_world new) → change old.world new.world
change_told change old new told told_new changed =
    let P : Option World → Type 0 = λ w. Told change w (told_world new) in
    let Q : Option World → Type 0 = λ w. Told change (Some old.world) w in
    subst Q (world_is_told new told_new) (subst P (world_is_told old told) changed)

pub lawful_told : (tree : TreeState) → tree.told ≡ true → TellsLawful (told_world tree) → IsLawful tree.world.history
lawful_told tree told lawful =
    let P : Option World → Type 0 = λ w. TellsLawful w in
    subst P (world_is_told tree told) lawful

pub followed_told : (tree : TreeState) → tree.told ≡ true → HasFollowed (told_plan tree) (told_world tree) → (tree.plan.since ≤ length tree.world.history) × Follows tree.plan tree.world.history
followed_told tree told followed =
    let P : Option Plan → Type 0 = λ p. HasFollowed p (told_world tree) in
    let Q : Option World → Type 0 = λ w. HasFollowed (Some tree.plan) w in
    subst Q (world_is_told tree told) (subst P (plan_is_told tree told) followed)
