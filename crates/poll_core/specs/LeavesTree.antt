-- What a poll leaves of a tree, whatever it answers.
use Rattle.std.specs.Prelude.{◌≡◌}
use Rattle.file_pass.specs.TreeTerms.{GoesLater, IsNoWider, SameHandles}
use Rattle.outside.specs.Count.{NeverFalls}
use Rattle.outside.specs.TreeMeaning.{TreeMeaning}
use Rattle.outside.specs.World.{Told}

pub record LeavesTree {T : Type 0} (meaning : TreeMeaning T) (old new : T) : Type 0 where
  pub later : Told GoesLater (meaning.world old) (meaning.world new)
  -- each file that was opened was closed again
  pub handles : Told SameHandles (meaning.world old) (meaning.world new)
  pub faults : NeverFalls (meaning.faults old) (meaning.faults new)
  pub plan : meaning.plan new ≡ meaning.plan old
  pub bound : meaning.bound new ≡ meaning.bound old
  -- no buffer was longer than 64 KiB
  pub widest : IsNoWider 65536 (meaning.widest old) (meaning.widest new)
