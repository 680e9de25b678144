-- What a pass makes of its paths.
use Rattle.std.specs.Prelude.{◌≡◌, ℕ, ◌+◌, ◌≤◌, List, [], ◌++◌, length, map, reverse, Contains, count_by}
use Rattle.outside.specs.Seen.{looked, missed, left_unlisted}
use Rattle.outside.specs.World.{World, History}
use Rattle.standing.specs.Poll.{Poll}
use Rattle.standing.specs.Look.{Look, Progress}
use Rattle.standing.specs.Looks.{Come, ReadOn, progress_by, count_of}
use Rattle.standing.specs.Marks.{Mark}
use Rattle.standing.specs.Moments.{IsLater}
use Rattle.standing.specs.Pass.{is_short}
use Rattle.standing.specs.Sums.{is_filled, is_passed_as_compressed, is_left_out, has_more, is_shrunk}
use Rattle.file_pass.specs.Cost.{cost_of}
use Rattle.file_pass.specs.Fed.{poll_of}
use Rattle.file_pass.specs.Gain.{Gain, Counted}
use Rattle.file_pass.specs.Moment.{Meanings, TakingAt, rows_at}
use Rattle.file_pass.specs.PathTaken.{PathTaken}
use Rattle.file_pass.specs.Seen.{progress_of}
use Rattle.file_pass.specs.Step.{Step}
use Rattle.file_pass.specs.Taken.{Takes}
use Rattle.file_pass.specs.Turns.{Turn, path_of, looks_of, misses_of, gone_of, HadNone}
use Rattle.file_pass.specs.declared.setup.Setup.{Setup}

-- the agent's own events are those of these turns
pub record OwnTurns (poll : Poll) (turns : List Turn) (old new : History) : Type 0 where
  pub come : Come poll.rules (looks_of turns) old new
  pub later : IsLater old new
  pub all_looks : looked new ≡ map (λ (here : Look). here.file) (looks_of turns) ++ looked old
  pub all_misses : missed new ≡ misses_of turns ++ missed old
  pub no_unlisted : left_unlisted new ≡ left_unlisted old
  pub had_none : (path : List ℕ) → Contains (gone_of turns) path → HadNone old new path

-- what these turns add to the counts, and how many bytes were read for them at most
pub record AreGains (poll : Poll) (turns : List Turn) (start : Progress) (added : List Mark) (gain : Gain) : Type 0 where
  pub files : gain.files ≡ count_by is_filled (looks_of turns)
  pub lines : gain.lines ≡ length added
  pub left : gain.left ≡ count_of poll (has_more poll) (looks_of turns) start
  pub gone : gain.gone ≡ length (gone_of turns)
  pub failed : gain.failed ≡ count_by is_short (looks_of turns) + length (misses_of turns)
  pub compressed : gain.compressed ≡ count_of poll is_passed_as_compressed (looks_of turns) start
  pub shrunk : gain.shrunk ≡ count_of poll (is_shrunk poll) (looks_of turns) start
  pub full : gain.full ≡ count_of poll is_left_out (looks_of turns) start
  pub taken : gain.taken ≤ cost_of poll (looks_of turns) start

-- Each path has its turn, and the looks lead from the rows before to those after, with these lines.
pub record AllTaken (poll : Poll) (paths : List (List ℕ)) (step : Step) (old new : World) : Type 0 where
  pub turns : List Turn
  pub each : map path_of turns ≡ reverse paths
  pub handles : new.handles ≡ old.handles
  pub own : OwnTurns poll turns old.history new.history
  pub read_on : ReadOn poll (looks_of turns) (progress_of step.before [])
  pub leads_to : progress_by poll (looks_of turns) (progress_of step.before []) ≡ progress_of step.after step.added
  pub gains : AreGains poll turns (progress_of step.before []) step.added step.gain

-- One path was taken, and counted.
pub record TakesOne {T D : Type 0} (means : Meanings T D) (setup : Setup) (path : List ℕ) (before after : TakingAt T D) : Type 0 where
  pub gain : Gain
  pub counted : Counted before.taking.counts gain after.taking.counts
  pub takes : Takes means (PathTaken (poll_of setup) path) gain (rows_at before.taking before.outside) (rows_at after.taking after.outside)

-- A pass came to its end.
pub record TakesAll {T D : Type 0} (means : Meanings T D) (setup : Setup) (paths : List (List ℕ)) (before after : TakingAt T D) : Type 0 where
  pub gain : Gain
  pub counted : Counted before.taking.counts gain after.taking.counts
  pub takes : Takes means (AllTaken (poll_of setup) paths) gain (rows_at before.taking before.outside) (rows_at after.taking after.outside)
