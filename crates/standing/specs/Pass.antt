-- One poll, read on the stretch of the history in which it was made. Nothing here asks what the rows stand for.
use Rattle.std.specs.Prelude.{◌≡◌, ◌≢◌, ◌⊎◌, ℕ, ◌+◌, ◌<◌, ◌≤◌, ◌==◌, nat_lt, if◌then◌else◌, List, [], ◌∷◌, ◌++◌, length, map, Bool, false, ◌||◌, Option, None, Some, IfSome, Contains, IsTrue, count_by}
use Rattle.outside.specs.Count.{last_count}
use Rattle.outside.specs.Path.{slash, components, relative, is_below}
use Rattle.outside.specs.Seen.{looked, missed, left_unlisted}
use Rattle.outside.specs.World.{History}
use Rattle.standing.specs.Limits.{deepest}
use Rattle.standing.specs.Look.{Look, Progress, size}
use Rattle.standing.specs.Looks.{progress_by, Come, ReadOn, Ascend}
use Rattle.standing.specs.Marks.{Mark}
use Rattle.standing.specs.Moments.{NamesThroughout}
use Rattle.standing.specs.Poll.{Poll}
use Rattle.standing.specs.Rows.{Checkpoint}
use Rattle.standing.specs.Rules.{Rules, output_text, Includes}

-- a stretch of a history, and the tree's count of faults at its two ends
pub record Stretch : Type 0 where
  pub old : History
  pub new : History
  pub faults_before : ℕ
  pub faults_after : ℕ

-- Not all of the file could be read.
abbrev pub is_short : Look → Bool
is_short here = here.skipped || nat_lt here.end (size here)

-- where paths begin: the working folder, which is the empty path, or a slash for absolute ones
abbrev pub root_of : List ℕ → List ℕ
root_of [] = []
root_of (byte ∷ rest) = if byte == slash then slash ∷ [] else []

-- the folder is on the way to the path
abbrev pub IsOnWay : List ℕ → List ℕ → Type 0
IsOnWay path folder = (folder ≡ root_of path) ⊎ ((folder ≢ []) × IsTrue (is_below folder path))

-- a walk comes to the folder of the path
abbrev pub IsReachable : List ℕ → Type 0
IsReachable path = length (components (relative path)) ≤ deepest + 1

-- the agent's own calls in the stretch: the looks, the newest first, the paths that could not be opened, and the
-- folders that could not be listed
pub record OwnCalls (stretch : Stretch) (looks : List Look) (misses unlisteds : List (List ℕ)) : Type 0 where
  pub all_looks : looked stretch.new ≡ map (λ (here : Look). here.file) looks ++ looked stretch.old
  pub all_misses : missed stretch.new ≡ misses ++ missed stretch.old
  pub all_unlisteds : left_unlisted stretch.new ≡ unlisteds ++ left_unlisted stretch.old
  -- each of them that failed raised the tree's count
  pub counted : stretch.faults_after < last_count
      → stretch.faults_before + (count_by is_short looks + (length misses + length unlisteds)) ≤ stretch.faults_after

abbrev pub WasLookedAt : List Look → List ℕ → Type 0
WasLookedAt looks path = Contains (map (λ (here : Look). here.path) looks) path

-- the path itself, or a folder on the way to it, met a fault
abbrev pub WasHidden : List (List ℕ) → List (List ℕ) → List ℕ → Type 0
WasHidden misses unlisteds path = Contains misses path ⊎ ((folder : List ℕ) × Contains unlisteds folder × IsOnWay path folder)

-- no path that is to be read and names one file all the time was left out, unless it met a fault
abbrev pub LeavesNoneOut : Rules → Stretch → List Look → List (List ℕ) → List (List ℕ) → Type 0
LeavesNoneOut rules stretch looks misses unlisteds =
    (path : List ℕ) (file : ℕ) → Includes rules path → IsReachable path → NamesThroughout stretch.old stretch.new path file
    → WasLookedAt looks path ⊎ WasHidden misses unlisteds path

abbrev pub start_at : Checkpoint → Progress
start_at checkpoint = record { rows = checkpoint.rows; next_id = checkpoint.next_id; added = [] }

-- nothing of the checkpoint is new but what a poll that found nothing has too
abbrev pub IsQuiet : Poll → Checkpoint → Checkpoint → List Mark → Type 0
IsQuiet poll before after added = (poll.first ≡ false) × (after.rows ≡ before.rows) × (added ≡ [])

-- the time of a poll, where it has one
abbrev pub time_of : Option ℕ → ℕ → ℕ
time_of None before = before
time_of (Some time) before = time

-- The greatest time that was kept, which the poll's isn't less than: the poll's, where it has something to keep, and else as before.
pub record IsObserved (poll : Poll) (before after : Checkpoint) (added : List Mark) : Type 0 where
  pub later : IfSome poll.stamp (λ time. before.observed ≤ time)
  pub is : (IsQuiet poll before after added × (after.observed ≡ before.observed))
      ⊎ ((IsQuiet poll before after added → ⊥) × (after.observed ≡ time_of poll.stamp before.observed))

-- the checkpoint after these looks, and the lines that they added
pub record LeadsTo (poll : Poll) (looks : List Look) (before after : Checkpoint) (added : List Mark) : Type 0 where
  pub eras : after.eras ≡ before.eras
  pub rows : after.rows ≡ (progress_by poll looks (start_at before)).rows
  pub next_id : after.next_id ≡ (progress_by poll looks (start_at before)).next_id
  pub lines : added ≡ (progress_by poll looks (start_at before)).added
  pub output_length : after.output_length ≡ before.output_length + length (output_text poll.rules added)
  pub observed : IsObserved poll before after added

-- `before` is the checkpoint at the poll's beginning, or what stands for one.
pub record Pass (poll : Poll) (stretch : Stretch) (looks : List Look) (before after : Checkpoint) (added : List Mark) : Type 0 where
  pub misses : List (List ℕ)
  pub unlisteds : List (List ℕ)
  pub calls : OwnCalls stretch looks misses unlisteds
  pub come : Come poll.rules looks stretch.old stretch.new
  pub ascend : Ascend looks
  pub leaves_none_out : LeavesNoneOut poll.rules stretch looks misses unlisteds
  pub read_on : ReadOn poll looks (start_at before)
  pub leads_to : LeadsTo poll looks before after added
