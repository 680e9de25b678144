-- Places of faults, counted from further before.
use Rattle.std.specs.Prelude.{◌≡◌, ℕ, ◌+◌, min, List}
use Rattle.state_codec.specs.declared.CodecFault.{CodecFault}
use Rattle.state_codec.specs.declared.CodecFault.TheVariants.{Malformed, Memory}
use Rattle.slot_store.specs.Frame.{last_number}
use Rattle.checkpoint_store.specs.Applied.{SpellsNoChange}
use Rattle.checkpoint_store.specs.declared.Checkpoint.{Checkpoint}
use Rattle.checkpoint_journal.specs.Says.{FailsIn}
use Rattle.checkpoint_journal.specs.declared.fault.JournalFault.{JournalFault}
use Rattle.checkpoint_journal.specs.declared.fault.JournalFault.TheVariants as journal

-- the first record begins at this place
pub record FailsBehind (version begin : ℕ) (first : Checkpoint) (records : List (List ℕ)) (at : ℕ) : Type 0 where
  pub fault : ℕ
  pub fails : FailsIn version first records fault
  pub place : at ≡ begin + fault

-- the payload begins at this place
pub record NoChangeAt (version start : ℕ) (before : Checkpoint) (payload : List ℕ) (at : ℕ) : Type 0 where
  pub fault : ℕ
  pub fails : SpellsNoChange version before payload fault
  pub place : at ≡ start + fault

-- how a fault is told in bytes that begin at this place; no place is past the last number
abbrev pub IsTold : ℕ → CodecFault → JournalFault → Type 0
IsTold start (Malformed at) told = told ≡ journal.Bad (min (start + at) last_number)
IsTold start Memory told = told ≡ journal.Memory
