-- What is kept of the files and of the output from one run to the next.
use Rattle.std.specs.Prelude.{◌≡◌, ℕ, ◌+◌, All, IsTrue, List, [], length, Some, slice_get}
pub use Rattle.checkpoint_store.specs.declared.Checkpoint.{Checkpoint}
pub use Rattle.file_tracker.specs.declared.row.Row.{Row}
use Rattle.standing.specs.Rules.{Rules}

-- what stands for a checkpoint where there is none
abbrev pub no_checkpoint : List (List ℕ) → Checkpoint
no_checkpoint texts = record { eras = texts; output_length = 0; observed = 0; next_id = 1; rows = [] }

abbrev pub IsRowAt : List Row → ℕ → Row → Type 0
IsRowAt rows place row = slice_get rows place ≡ Some row

-- the ids are 1, 2 and so on
abbrev pub AreInOrder : List Row → Type 0
AreInOrder rows = (place : ℕ) (row : Row) → IsRowAt rows place row → row.id ≡ place + 1

pub record AreNumbered (rows : List Row) (next_id : ℕ) : Type 0 where
  pub ids : AreInOrder rows
  pub next : next_id ≡ length rows + 1

-- each row keeps a state of these operators
abbrev pub KeepStates : Rules → List Row → Type 0
KeepStates rules rows = All (λ (row : Row). IsTrue (rules.is_state row.state)) rows
