-- What is found out on the way to what an audit goes by.
use Rattle.std.specs.Prelude.{◌≡◌, ℕ, ◌<◌, ◌≤◌, List, [], length, take, ⊤}
use Rattle.checkpoint_store.specs.declared.Checkpoint.{Checkpoint}
use Rattle.folder_audit.specs.KeptFiles.{IsLast}
use Rattle.folder_audit.specs.Limits.{largest_kept}
use Rattle.folder_audit.specs.Made.{ArePipesOf}
use Rattle.pipeline.specs.Foreign.{IsLeastForeign}
use Rattle.folder_audit.specs.Refusals.{Flush, IsFirstRefused}
use Rattle.folder_audit.specs.declared.fault.AuditFault.{AuditFault}
use Rattle.folder_audit.specs.declared.fault.AuditFault.TheVariants.{Disk, CheckpointBad, KeptSettings, KeptBuild, OutputShort, FlushOn, Large, Memory}
use Rattle.pipeline.specs.AsRules.{rules_of}
use Rattle.pipeline.specs.declared.Pipeline.{Pipeline}
use Rattle.standing.specs.Rows.{KeepStates}

-- the operators of a checkpoint's eras, of which each row keeps a state of the last ones
pub record AreOperators (checkpoint : Checkpoint) (pipes : List Pipeline) : Type 0 where
  pub made : ArePipesOf checkpoint.eras pipes
  pub states : (last : Pipeline) → IsLast pipes last → KeepStates (rules_of [] last) checkpoint.rows

-- some row keeps none
pub record HasForeign (checkpoint : Checkpoint) (id : ℕ) : Type 0 where
  pub pipes : List Pipeline
  pub last : Pipeline
  pub made : ArePipesOf checkpoint.eras pipes
  pub is_last : IsLast pipes last
  pub foreign : IsLeastForeign (rules_of [] last) checkpoint.rows id

abbrev pub IsUnfit : Checkpoint → AuditFault → Type 0
IsUnfit checkpoint (KeptSettings fault) = IsFirstRefused checkpoint.eras (KeptSettings fault)
IsUnfit checkpoint (KeptBuild fault) = IsFirstRefused checkpoint.eras (KeptBuild fault)
IsUnfit checkpoint (CheckpointBad id) = HasForeign checkpoint id
IsUnfit checkpoint Memory = ⊤
IsUnfit checkpoint fault = ⊥

-- what is kept of an output file that is long enough, where nothing is flushed and it isn't too much
pub record IsOutput (pipes : List Pipeline) (kept : ℕ) (file output : List ℕ) : Type 0 where
  pub enough : kept ≤ length file
  pub flush_off : Flush pipes → ⊥
  pub small : kept ≤ largest_kept
  pub is : output ≡ take kept file

abbrev pub IsNoOutput : List Pipeline → ℕ → List ℕ → AuditFault → Type 0
IsNoOutput pipes kept file (OutputShort length_kept size) = (length_kept ≡ kept) × (size ≡ length file) × (size < kept)
IsNoOutput pipes kept file FlushOn = (kept ≤ length file) × Flush pipes
IsNoOutput pipes kept file (Large size) = (kept ≤ length file) × (size ≡ kept) × (Flush pipes → ⊥) × (largest_kept < kept)
IsNoOutput pipes kept file Disk = ⊤
IsNoOutput pipes kept file Memory = ⊤
IsNoOutput pipes kept file fault = ⊥

-- of an output that is long enough
abbrev pub IsPastLimits : List Pipeline → ℕ → AuditFault → Type 0
IsPastLimits pipes kept FlushOn = Flush pipes
IsPastLimits pipes kept (Large size) = (size ≡ kept) × (Flush pipes → ⊥) × (largest_kept < kept)
IsPastLimits pipes kept fault = ⊥

abbrev pub IsTooShort : ℕ → List ℕ → AuditFault → Type 0
IsTooShort kept file (OutputShort length_kept size) = (length_kept ≡ kept) × (size ≡ length file) × (size < kept)
IsTooShort kept file Disk = ⊤
IsTooShort kept file fault = ⊥
