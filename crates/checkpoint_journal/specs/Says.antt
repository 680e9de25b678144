-- What a base and records say: a checkpoint, changed by each record in turn.
use Rattle.std.specs.Prelude.{◌≡◌, ℕ, ◌+◌, List, [], ◌∷◌, length}
use Rattle.checkpoint_store.specs.Applied.{SpellsChange, SpellsNoChange}
use Rattle.checkpoint_store.specs.Decodes.{Spells, SpellsNone}
use Rattle.checkpoint_store.specs.declared.Checkpoint.{Checkpoint}

-- Each record is the spelling, under a base of this version, of a change that fits the checkpoint before it, and the last
-- one makes this checkpoint.
pub data AreChanges (version : ℕ) : Checkpoint → List (List ℕ) → Checkpoint → Type 0 where
  no_change : (checkpoint : Checkpoint) → AreChanges version checkpoint [] checkpoint
  one_change : (before between after : Checkpoint) (bytes : List ℕ) (records : List (List ℕ)) → SpellsChange version before bytes between → AreChanges version between records after → AreChanges version before (bytes ∷ records) after

-- The base is the spelling of a checkpoint by this version, and the records change it into this one.
pub record Says (version : ℕ) (base : List ℕ) (records : List (List ℕ)) (checkpoint : Checkpoint) : Type 0 where
  pub first : Checkpoint
  pub base_is : Spells base first
  pub version_is : base_is.version ≡ version
  pub changes : AreChanges version first records checkpoint

-- The first record that has no reading after this checkpoint can't go on at this byte, counted from the begin of the
-- first record. Before each payload stand 17 bytes.
pub data FailsIn (version : ℕ) : Checkpoint → List (List ℕ) → ℕ → Type 0 where
  in_first : (before : Checkpoint) (bytes : List ℕ) (records : List (List ℕ)) (fault at : ℕ) → SpellsNoChange version before bytes fault → at ≡ 17 + fault → FailsIn version before (bytes ∷ records) at
  in_later : (before between : Checkpoint) (bytes : List ℕ) (records : List (List ℕ)) (fault at : ℕ) → SpellsChange version before bytes between → FailsIn version between records fault → at ≡ 17 + length bytes + fault → FailsIn version before (bytes ∷ records) at

-- The base or a record has no reading, and can't go on at this byte, counted from the base's first. Each record is read under
-- the version of the base.
pub data Fails (base : List ℕ) (records : List (List ℕ)) : ℕ → Type 0 where
  in_base : (at : ℕ) → SpellsNone base at → Fails base records at
  in_record : (first : Checkpoint) (fault at : ℕ) (spells : Spells base first) → FailsIn spells.version first records fault → at ≡ length base + fault → Fails base records at
