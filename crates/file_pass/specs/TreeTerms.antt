-- What calls of a pass leave of a tree besides its world.
use Rattle.std.specs.Prelude.{◌≡◌, ℕ, ◌+◌, ◌≤◌, max, Option, Some, None, ⊤}
use Rattle.outside.specs.Count.{NeverFalls, Rose}
use Rattle.outside.specs.TreeMeaning.{TreeMeaning}
use Rattle.outside.specs.World.{World, Told}
use Rattle.standing.specs.Moments.{IsLater}
use Rattle.file_pass.specs.Reads.{Piece, Reads}
use Rattle.file_pass.specs.declared.ending.Ending.{Ending}
use Rattle.file_pass.specs.declared.ending.Ending.TheVariants.{Whole, Failed, Shrunk}

-- the longest buffer was no longer than this, or was there before
abbrev pub IsNoWider : ℕ → Option ℕ → Option ℕ → Type 0
IsNoWider most None None = ⊤
IsNoWider most None (Some _) = ⊥
IsNoWider most (Some _) None = ⊥
IsNoWider most (Some before) (Some after) = after ≤ max before most

abbrev pub GoesLater : World → World → Type 0
GoesLater old new = IsLater old.history new.history

-- the files that were open are, and no other
abbrev pub SameHandles : World → World → Type 0
SameHandles old new = new.handles ≡ old.handles

-- what no call of a pass changes, and how many bytes reads gave
pub record KeepsTree {T : Type 0} (meaning : TreeMeaning T) (most taken : ℕ) (old new : T) : Type 0 where
  pub later : Told GoesLater (meaning.world old) (meaning.world new)
  pub handles : Told SameHandles (meaning.world old) (meaning.world new)
  pub faults : NeverFalls (meaning.faults old) (meaning.faults new)
  pub nameless : meaning.nameless new ≡ meaning.nameless old
  pub plan : meaning.plan new ≡ meaning.plan old
  pub bound : meaning.bound new ≡ meaning.bound old
  pub taken_then : meaning.taken new ≤ meaning.taken old + taken
  pub widest : IsNoWider most (meaning.widest old) (meaning.widest new)

-- A read that failed raised the count, and nothing else did.
abbrev pub HasEnding : Ending → ℕ → ℕ → Type 0
HasEnding Whole before after = after ≡ before
HasEnding Shrunk before after = after ≡ before
HasEnding Failed before after = Rose before after

-- Bytes of an open file were read, into a buffer of at most this length.
pub record ReadsOnly {T : Type 0} (meaning : TreeMeaning T) (piece : Piece) (taken most : ℕ) (old new : T) : Type 0 where
  pub world : Told (Reads piece) (meaning.world old) (meaning.world new)
  pub cause : HasEnding piece.ending (meaning.faults old) (meaning.faults new)
  pub keeps : KeepsTree meaning most taken old new
