-- The script so far, as it lies in memory.
use Rattle.std.specs.Prelude.{◌≡◌, ℕ, ◌<◌, map, Some, slice_get}
use Rattle.demo_run.specs.Moves.{move_of}
use Rattle.demo_run.specs.Script.{Played}
use Rattle.demo_run.specs.declared.playing.Playing.{Playing}

pub record IsPlaying (played : Played) (playing : Playing) : Type 0 where
  pub moves : map move_of playing.events.items ≡ played.moves
  pub files : (log : ℕ) → log < 3 → slice_get playing.files log ≡ Some (played.files log)
  pub next_file : playing.next_file ≡ played.next_file
