-- What a command makes of an image that a crash may leave, however it ends.
use Rattle.std.specs.Prelude.{◌≡◌, ℕ, ◌+◌, ◌≤◌, List, ◌++◌}
use Rattle.outside.specs.Image.{Image}
use Rattle.outside.specs.declared.disk.DiskFile.{DiskFile}
use Rattle.outside.specs.declared.disk.DiskFile.TheVariants.{Settings, Output}
use Rattle.poll_core.specs.Found.{IsFound}
use Rattle.poll_core.specs.Sequence.{HasSequence}
use Rattle.poll_core.specs.Sound.{IsSoundImage}
use Rattle.standing.specs.Standing.{Found, kept}

-- what is found there keeps all that was kept of the output, with more behind it
pub record KeepsMore (there : Found) (old new : Image DiskFile) : Type 0 where
  pub after : Found
  pub found : IsFound new after
  pub more : List ℕ
  pub longer : kept after (new Output) ≡ kept there (old Output) ++ more

-- the sequence number is this one, or greater by so many at most
pub record CountsUp (most number : ℕ) (image : Image DiskFile) : Type 0 where
  pub after : ℕ
  pub has : HasSequence image after
  pub no_lower : number ≤ after
  pub within : after ≤ number + most

-- Nothing that was kept is lost, what was sound is sound, and the sequence number grows by so many at most.
pub record GrowsBy (most : ℕ) (old new : Image DiskFile) : Type 0 where
  pub settings : new Settings ≡ old Settings
  pub kept_then : (there : Found) → IsFound old there → KeepsMore there old new
  pub sound : IsSoundImage old → IsSoundImage new
  pub sequence : (number : ℕ) → HasSequence old number → CountsUp most number new
