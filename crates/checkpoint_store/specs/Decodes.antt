-- What reading a whole checkpoint answers.
use Rattle.std.specs.Prelude.{◌≡◌, ℕ, ◌-◌, ◌<◌, List, length, Result, Ok, Err}
use Rattle.state_codec.specs.declared.CodecFault.{CodecFault}
use Rattle.state_codec.specs.declared.CodecFault.TheVariants.{Malformed, Memory}
use Rattle.checkpoint_store.specs.declared.Checkpoint.{Checkpoint}
use Rattle.checkpoint_store.specs.Rules.{IsVersion, IsCheckpoint}
use Rattle.checkpoint_store.specs.Spelling.{checkpoint_spelling}
use Rattle.checkpoint_store.specs.Reading.{whole_checkpoint}
use Rattle.checkpoint_store.specs.DeadEnds.{IsDeadEnd}

-- the bytes are the spelling of this checkpoint by some version
pub record Spells (bytes : List ℕ) (c : Checkpoint) : Type 0 where
  pub version : ℕ
  pub known : IsVersion version
  pub lawful : IsCheckpoint version c
  pub spelled : bytes ≡ checkpoint_spelling version c

abbrev pub SpelledCheckpoint : List ℕ → Type 0
SpelledCheckpoint bytes = (c : Checkpoint) × Spells bytes c

-- they are no checkpoint's, and reading tells how many bytes are left where it can't go on: in front of the end it is told at
-- the first byte or number with which nothing goes on
pub record SpellsNone (bytes : List ℕ) (fault : ℕ) : Type 0 where
  pub none : (c : Checkpoint) → Spells bytes c → ⊥
  pub place : (left : ℕ) × (whole_checkpoint bytes ≡ Err left) × (fault ≡ length bytes - left)
  pub stops : fault < length bytes → IsDeadEnd SpelledCheckpoint bytes fault

abbrev pub Decodes : List ℕ → Result Checkpoint CodecFault → Type 0
Decodes bytes (Ok c) = Spells bytes c
Decodes bytes (Err (Malformed fault)) = SpellsNone bytes fault
Decodes bytes (Err Memory) = Unit {0}

-- this checkpoint is answered, unless memory ran out
abbrev pub Answers : Checkpoint → Result Checkpoint CodecFault → Type 0
Answers c (Ok answer) = answer ≡ c
Answers c (Err (Malformed fault)) = ⊥
Answers c (Err Memory) = Unit {0}
