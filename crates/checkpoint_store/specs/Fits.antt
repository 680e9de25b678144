-- What a change keeps beside the checkpoint that stood before it.
use Rattle.std.specs.Prelude.{◌≡◌, ℕ, ◌+◌, ◌-◌, ◌<◌, ◌≤◌, ◌⊎◌, List, [], ◌∷◌, ⊤}
use Rattle.file_tracker.specs.declared.row.Row.{Row}
use Rattle.file_tracker.specs.Limits.{row_limit}
use Rattle.checkpoint_store.specs.Limits.{output_limit}
use Rattle.checkpoint_store.specs.declared.Checkpoint.{Checkpoint}
use Rattle.checkpoint_store.specs.declared.Change.{Change}
use Rattle.checkpoint_store.specs.declared.beside.Beside.{Beside}
use Rattle.checkpoint_store.specs.Rules.{KeepsRules, Follows, beside_of}

-- rows by ascending id, from `low` to `high`
abbrev pub Ascend : Beside → ℕ → ℕ → List Row → Type 0
Ascend beside low high [] = ⊤
Ascend beside low high (row ∷ rows) = ((low ≤ row.id) × (row.id ≤ high)) × (KeepsRules beside row × Ascend beside (row.id + 1) high rows)

-- one of the rows has this id
abbrev pub HasId : List Row → ℕ → Type 0
HasId [] id = ⊥
HasId (row ∷ rows) id = (row.id ≡ id) ⊎ HasId rows id

-- nothing falls, each row keeps the rules beside the new length and the same eras, and each new id is there
pub record Fits (version : ℕ) (before : Checkpoint) (change : Change) : Type 0 where
  pub output_length : (before.output_length ≤ change.output_length) × (change.output_length ≤ output_limit)
  pub observed : Follows version before.observed change.observed
  pub next_id : (before.next_id ≤ change.next_id) × (change.next_id ≤ row_limit + 1)
  pub rows : Ascend (beside_of version before.eras change.output_length) 1 (change.next_id - 1) change.rows
  pub new : (id : ℕ) → before.next_id ≤ id → id < change.next_id → HasId change.rows id
