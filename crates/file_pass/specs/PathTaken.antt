-- What a pass makes of one path.
use Rattle.std.specs.Prelude.{◌≡◌, ℕ, ◌≤◌, List, [], ◌∷◌}
use Rattle.outside.specs.Seen.{looked, missed, left_unlisted}
use Rattle.outside.specs.World.{World, History}
use Rattle.standing.specs.Poll.{Poll}
use Rattle.standing.specs.Look.{Look, ComesAt, outcome}
use Rattle.standing.specs.Moments.{IsLater}
use Rattle.file_pass.specs.Cost.{look_cost}
use Rattle.file_pass.specs.Gain.{no_gain}
use Rattle.file_pass.specs.LookTaken.{TakesLook}
use Rattle.file_pass.specs.Step.{Step}
use Rattle.file_pass.specs.Turns.{Turn, looks_at, misses_path, finds_none, path_of, HadNone}

-- a file was looked at under the path
pub record LooksAtPath (poll : Poll) (here : Look) (step : Step) (old new : History) : Type 0 where
  pub later : IsLater old here.moment
  pub comes : ComesAt poll.rules here new
  pub all_looks : looked new ≡ here.file ∷ looked old
  pub all_misses : missed new ≡ missed old
  pub takes : TakesLook poll here step
  pub cost : step.gain.taken ≤ look_cost poll here (outcome poll.rules step.before here)

-- the path could not be opened
pub record MissesPath (path : List ℕ) (step : Step) (old new : History) : Type 0 where
  pub later : IsLater old new
  pub all_looks : looked new ≡ looked old
  pub all_misses : missed new ≡ path ∷ missed old
  pub same : step.after ≡ step.before
  pub none : step.added ≡ []
  pub gain_is : step.gain ≡ record no_gain { failed = 1 }

pub record FindsNoFile (path : List ℕ) (step : Step) (old new : History) : Type 0 where
  pub had_none : HadNone old new path
  pub all_looks : looked new ≡ looked old
  pub all_misses : missed new ≡ missed old
  pub same : step.after ≡ step.before
  pub none : step.added ≡ []
  pub gain_is : step.gain ≡ record no_gain { gone = 1 }

abbrev pub Comes : Poll → Step → Turn → History → History → Type 0
Comes poll step (looks_at here) old new = LooksAtPath poll here step old new
Comes poll step (misses_path path) old new = MissesPath path step old new
Comes poll step (finds_none path) old new = FindsNoFile path step old new

pub record PathTaken (poll : Poll) (path : List ℕ) (step : Step) (old new : World) : Type 0 where
  pub turn : Turn
  pub path_is : path_of turn ≡ path
  pub comes : Comes poll step turn old.history new.history
  pub handles : new.handles ≡ old.handles
  pub no_unlisted : left_unlisted new.history ≡ left_unlisted old.history
