-- What a look at a file makes of the rows and of the counts.
use Rattle.std.specs.Prelude.{◌≡◌, ℕ, ◌≤◌, List, [], length, take, Bool, false, Some}
use Rattle.outside.specs.Moment.{Moves}
use Rattle.outside.specs.Reading.{file_of}
use Rattle.outside.specs.World.{World, History, bytes}
use Rattle.standing.specs.Poll.{Poll}
use Rattle.standing.specs.Look.{Look, Outcome, ReadsOn, outcome, after_look, size}
use Rattle.standing.specs.Marks.{Mark}
use Rattle.standing.specs.Moments.{IsLater}
use Rattle.standing.specs.Pass.{is_short}
use Rattle.standing.specs.Sums.{is_filled, is_passed_as_compressed, is_left_out, has_more, is_shrunk}
use Rattle.file_pass.specs.Cost.{cost_on, look_cost}
use Rattle.file_pass.specs.Gain.{Gain, one_if}
use Rattle.file_pass.specs.Seen.{progress_of}
use Rattle.file_pass.specs.Step.{Step}
use Rattle.file_pass.specs.declared.ending.OpenFile.{OpenFile}
use Rattle.file_pass.specs.declared.ending.PathFile.{PathFile}
use Rattle.file_pass.specs.declared.ending.SeenFile.{SeenFile}

abbrev pub look_at : List ℕ → ℕ → History → ℕ → Bool → Look
look_at path file moment end skipped = record { path = path; file = file; moment = moment; end = end; skipped = skipped }

-- the counts that the look adds to, by what it finds
pub record IsGainOf (poll : Poll) (here : Look) (found : Outcome) (added : List Mark) (gain : Gain) : Type 0 where
  pub files : gain.files ≡ one_if (is_filled here)
  pub lines : gain.lines ≡ length added
  pub left : gain.left ≡ one_if (has_more poll here found)
  pub gone : gain.gone ≡ 0
  pub failed : gain.failed ≡ one_if (is_short here)
  pub compressed : gain.compressed ≡ one_if (is_passed_as_compressed here found)
  pub shrunk : gain.shrunk ≡ one_if (is_shrunk poll here found)
  pub full : gain.full ≡ one_if (is_left_out here found)

pub record TakesLook (poll : Poll) (here : Look) (step : Step) : Type 0 where
  pub end_within : here.end ≤ size here
  pub reads_on : ReadsOn poll here (outcome poll.rules step.before here)
  pub leads_to : after_look poll here (progress_of step.before []) ≡ progress_of step.after step.added
  pub sums : IsGainOf poll here (outcome poll.rules step.before here) step.added step.gain

-- the handle stands for this file, which had that size at an earlier moment
pub record IsOpenAt (file : OpenFile) (seen : ℕ) (moment : History) (world : World) : Type 0 where
  pub is : file_of world.handles file.handle.0 ≡ Some seen
  pub size_then : file.size ≡ length (bytes moment seen)
  pub later : IsLater moment world.history

-- and these are its first bytes then
pub record IsSeenAt (poll : Poll) (file : OpenFile) (front : List ℕ) (seen : ℕ) (moment : History) (world : World) : Type 0 where
  pub open_at : IsOpenAt file seen moment world
  pub front_is : front ≡ take poll.rules.front_size (bytes moment seen)

-- An open file with this front was taken: what that makes of the rows is what a look at it makes of them.
pub record SeenTaken (poll : Poll) (at : SeenFile) (step : Step) (old new : World) : Type 0 where
  pub handles : new.handles ≡ old.handles
  pub moves : Moves old.history new.history
  pub end : ℕ
  pub looks : (seen : ℕ) (moment : History) → IsSeenAt poll at.file at.front.now seen moment old → TakesLook poll (look_at at.path.now seen moment end false) step
  -- beside what was read for the front
  pub cost : (seen : ℕ) (moment : History) → IsSeenAt poll at.file at.front.now seen moment old
      → step.gain.taken ≤ cost_on (look_at at.path.now seen moment end false) (outcome poll.rules step.before (look_at at.path.now seen moment end false))

-- The same of any open file.
pub record OpenTaken (poll : Poll) (at : PathFile) (step : Step) (old new : World) : Type 0 where
  pub handles : new.handles ≡ old.handles
  pub moves : Moves old.history new.history
  pub end : ℕ
  pub skipped : Bool
  pub looks : (seen : ℕ) (moment : History) → IsOpenAt at.file seen moment old → TakesLook poll (look_at at.path.now seen moment end skipped) step
  pub cost : (seen : ℕ) (moment : History) → IsOpenAt at.file seen moment old
      → step.gain.taken ≤ look_cost poll (look_at at.path.now seen moment end skipped) (outcome poll.rules step.before (look_at at.path.now seen moment end skipped))
