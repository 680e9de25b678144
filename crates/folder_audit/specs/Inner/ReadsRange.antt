-- A range of an open file's bytes that is read while the world moves.
use Rattle.std.specs.Prelude.{◌≡◌, ℕ, ◌+◌, ◌≤◌, List, Bool, true, false, length, take, drop, Some}
use Rattle.folder_audit.specs.Inner.Tried.{UnlessRose}
use Rattle.folder_audit.specs.Open.{GoesOn}
use Rattle.outside.specs.Reading.{file_of}
use Rattle.outside.specs.TreeMeaning.{TreeMeaning}
use Rattle.outside.specs.World.{World, Told, bytes}

-- The handle stands for this file, which has all bytes up to that place.
pub record HasBytes (handle last : ℕ) (world : World) (file : ℕ) : Type 0 where
  pub is : file_of world.handles handle ≡ Some file
  pub long : last ≤ length (bytes world.history file)

-- These are the file's bytes from the one place on, which were there at the beginning.
abbrev pub AreBytes : ℕ → ℕ → List ℕ → World → World → Type 0
AreBytes handle from given old new = (file : ℕ) → HasBytes handle (from + length given) old file → given ≡ take (length given) (drop from (bytes old.history file))

-- and the file ends before that place
abbrev pub EndsBefore : ℕ → ℕ → World → World → Type 0
EndsBefore handle last old new = (file : ℕ) → HasBytes handle last old file → ⊥

pub record ReadsRange {T : Type 0} (meaning : TreeMeaning T) (handle from : ℕ) (buffer : List ℕ) (whole : Bool) (old new : T) : Type 0 where
  pub goes_on : GoesOn meaning old new
  pub given : whole ≡ true → Told (AreBytes handle from buffer) (meaning.world old) (meaning.world new)
  pub failed : whole ≡ false → UnlessRose meaning (EndsBefore handle (from + length buffer)) old new
