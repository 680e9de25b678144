-- What a crash leaves: a checkpoint or none, and an output file.
use Rattle.std.specs.Prelude.{◌≡◌, ℕ, ◌≤◌, List, [], ◌++◌, length, take, ⊤}
use Rattle.outside.specs.World.{History}
use Rattle.standing.specs.Eras.{Eras, texts_of}
use Rattle.standing.specs.Rows.{Checkpoint, no_checkpoint}
use Rattle.standing.specs.Marks.{Mark}
use Rattle.standing.specs.Rules.{Rules, output_text}
use Rattle.standing.specs.Stands.{IsSound, CheckpointStands}

-- what stands where a checkpoint is looked for
pub data Found : Type 0 where
  nothing : Found
  damaged : Found
  found : Checkpoint → Found

-- what the next run keeps of the output file
abbrev pub kept : Found → List ℕ → List ℕ
kept nothing file = []
kept damaged file = []
kept (found checkpoint) file = take checkpoint.output_length file

-- what a poll begins with
abbrev pub checkpoint_of : Eras → Found → Checkpoint
checkpoint_of eras nothing = no_checkpoint (texts_of eras)
checkpoint_of eras damaged = no_checkpoint (texts_of eras)
checkpoint_of eras (found checkpoint) = checkpoint

abbrev pub Sound : Eras → Found → List ℕ → Type 0
Sound eras nothing file = ⊤
Sound eras damaged file = ⊥
Sound eras (found checkpoint) file = IsSound eras checkpoint file

abbrev pub Standing : Eras → History → Found → List ℕ → Type 0
Standing eras history nothing file = ⊤
Standing eras history damaged file = ⊥
Standing eras history (found checkpoint) file = CheckpointStands eras history checkpoint file

-- With this checkpoint the output file keeps what was kept before it, and then these lines.
pub record Lengthens (rules : Rules) (before : List ℕ) (after : Checkpoint) (added : List Mark) (file : List ℕ) : Type 0 where
  pub long_enough : after.output_length ≤ length file
  pub longer : take after.output_length file ≡ before ++ output_text rules added
