-- What applying a change answers.
use Rattle.std.specs.Prelude.{◌≡◌, ℕ, ◌-◌, ◌<◌, ◌≤◌, ◌⊎◌, if◌then◌else◌, List, ◌++◌, length, nat_lt, Result, Ok, Err}
use Rattle.state_codec.specs.declared.CodecFault.{CodecFault}
use Rattle.state_codec.specs.declared.CodecFault.TheVariants.{Malformed, Memory}
use Rattle.checkpoint_store.specs.declared.Checkpoint.{Checkpoint}
use Rattle.checkpoint_store.specs.declared.Change.{Change}
use Rattle.checkpoint_store.specs.Spelling.{change_spelling}
use Rattle.checkpoint_store.specs.Fits.{HasId, Fits}
use Rattle.checkpoint_store.specs.Changed.{changed}
use Rattle.checkpoint_store.specs.Reading.{whole_change}
use Rattle.checkpoint_store.specs.DeadEnds.{IsDeadEnd}

-- the bytes are the spelling of a change that fits what stood before, and this is what it makes of it
pub record SpellsChange (version : ℕ) (before : Checkpoint) (bytes : List ℕ) (after : Checkpoint) : Type 0 where
  pub change : Change
  pub fits : Fits version before change
  pub spelled : bytes ≡ change_spelling version change
  pub after_is : after ≡ changed before change

abbrev pub SpelledChange : ℕ → Checkpoint → List ℕ → Type 0
SpelledChange version before bytes = (after : Checkpoint) × SpellsChange version before bytes after

-- where a change has its count of rows: behind the output length, the observed time and the next id
abbrev pub count_place : ℕ → ℕ
count_place version = if nat_lt version 2 then 12 else 20

-- a change is spelled at the front of the bytes in which a new id is missing, which is told at its count of rows
pub record MissesNew (version : ℕ) (before : Checkpoint) (bytes : List ℕ) (fault : ℕ) : Type 0 where
  pub change : Change
  pub rest : List ℕ
  pub spelled : bytes ≡ change_spelling version change ++ rest
  pub id : ℕ
  pub new : (before.next_id ≤ id) × (id < change.next_id)
  pub missing : HasId change.rows id → ⊥
  pub place : fault ≡ count_place version

-- they are no such change's, and reading tells how many bytes are left where it can't go on: in front of the end it is told at
-- the first byte or number with which nothing goes on, or a new id is missing
pub record SpellsNoChange (version : ℕ) (before : Checkpoint) (bytes : List ℕ) (fault : ℕ) : Type 0 where
  pub none : (change : Change) → Fits version before change → bytes ≡ change_spelling version change → ⊥
  pub place : (left : ℕ) × (whole_change version before bytes ≡ Err left) × (fault ≡ length bytes - left)
  pub stops : fault < length bytes → IsDeadEnd (SpelledChange version before) bytes fault ⊎ MissesNew version before bytes fault

abbrev pub Applies : ℕ → Checkpoint → List ℕ → Result Checkpoint CodecFault → Type 0
Applies version before bytes (Ok after) = SpellsChange version before bytes after
Applies version before bytes (Err (Malformed fault)) = SpellsNoChange version before bytes fault
Applies version before bytes (Err Memory) = Unit {0}
