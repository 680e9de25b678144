-- What `read_at` answers.
use Rattle.std.specs.Prelude.{◌≡◌, ℕ, List, [], Option, None, Some, option_map, find, max, Result, Ok, Err, ◌==◌}
use Rattle.outside.specs.Count.{raised}
use Rattle.outside.specs.World.{History, bytes, World}
use Rattle.outside.specs.Moment.{Moves, AtOneMoment}
use Rattle.outside.specs.Content.{Gives}
use Rattle.outside.specs.declared.fault.Failed.{Failed}

-- the file that a handle stands for
abbrev pub file_of : List (ℕ × ℕ) → ℕ → Option ℕ
file_of handles handle = option_map (λ pair. pair.1) (find (λ pair. pair.0 == handle) handles)

abbrev pub bytes_if : History → Option ℕ → List ℕ
bytes_if history None = []
bytes_if history (Some file) = bytes history file

abbrev pub ReadsWithin : Option ℕ → ℕ → List ℕ → Result ℕ Failed → History → History → Type 0
ReadsWithin file offset buffer (Ok count) old new = AtOneMoment [] (λ history. Gives (bytes_if history file) offset buffer count) old new
ReadsWithin file offset buffer (Err _) old new = Moves old new

pub record Reads (handle offset : ℕ) (buffer : List ℕ) (result : Result ℕ Failed) (old new : World) : Type 0 where
  pub handles : new.handles ≡ old.handles
  pub history : ReadsWithin (file_of old.handles handle) offset buffer result old.history new.history

abbrev pub taken_after : Result ℕ Failed → ℕ → ℕ
taken_after (Ok count) taken = raised taken count
taken_after (Err _) taken = taken

-- a read was given a buffer of this length
abbrev pub widest_after : ℕ → Option ℕ → Option ℕ
widest_after size widest = option_map (λ most. max most size) widest
