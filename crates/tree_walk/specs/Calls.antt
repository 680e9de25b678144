-- The calls that a walk makes.
use Rattle.std.specs.Prelude.{◌≡◌, ℕ, ◌≤◌, min, List, ◌++◌}
use Rattle.outside.specs.Count.{raised, NeverFalls, last_count}
use Rattle.outside.specs.Seen.{looked, missed, left_unlisted}
use Rattle.outside.specs.TreeMeaning.{TreeMeaning}
use Rattle.outside.specs.World.{History, World, Told}
use Rattle.standing.specs.Moments.{IsLater}

-- Between the two moments the agent only listed folders. These could not be listed, the newest first.
pub record ListsOnly (unlisteds : List (List ℕ)) (old new : History) : Type 0 where
  pub later : IsLater old new
  pub no_looks : looked new ≡ looked old
  pub no_misses : missed new ≡ missed old
  pub all_unlisteds : left_unlisted new ≡ unlisteds ++ left_unlisted old

-- The tree goes on, with the files that were open and no other.
pub record KeepsHandles (old new : World) : Type 0 where
  pub handles : new.handles ≡ old.handles
  pub later : IsLater old.history new.history

-- what listing folders leaves of a tree, whatever it answers
pub record Lasts {T : Type 0} (meaning : TreeMeaning T) (old new : T) : Type 0 where
  pub faults : NeverFalls (meaning.faults old) (meaning.faults new)
  pub nameless : meaning.nameless old ≤ last_count → NeverFalls (meaning.nameless old) (meaning.nameless new)
  pub taken : meaning.taken new ≡ meaning.taken old
  pub widest : meaning.widest new ≡ meaning.widest old
  pub plan : meaning.plan new ≡ meaning.plan old
  pub bound : meaning.bound new ≡ meaning.bound old
  pub world : Told KeepsHandles (meaning.world old) (meaning.world new)

-- So many lists failed, and so many names that they gave weren't UTF-8.
pub record Counts {T : Type 0} (meaning : TreeMeaning T) (fails unnamed : ℕ) (old new : T) : Type 0 where
  pub rose : raised (meaning.faults old) fails ≤ meaning.faults new
  pub nameless : meaning.nameless old ≤ last_count → meaning.nameless new ≡ raised (meaning.nameless old) unnamed

-- a number in 32 bits, which stands still at the greatest
abbrev pub in_32_bits : ℕ → ℕ
in_32_bits count = min count 4294967295
