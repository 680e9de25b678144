-- What a pass leaves, as a checkpoint and as a change.
use Rattle.std.specs.Prelude.{◌+◌, length}
use Rattle.checkpoint_journal.specs.Next.{change_to}
use Rattle.checkpoint_store.specs.Parts.{flagged}
use Rattle.checkpoint_store.specs.declared.Change.{Change}
use Rattle.checkpoint_store.specs.declared.Checkpoint.{Checkpoint}
use Rattle.file_pass.specs.declared.taking.Taking.{Taking}
use Rattle.poll_core.specs.declared.heading.Heading.{Heading}

-- ids count from 1
abbrev pub taken_checkpoint : Heading → Taking → Checkpoint
taken_checkpoint heading taking = record {
  eras = heading.eras.now;
  output_length = taking.end;
  observed = heading.observed;
  next_id = length taking.tracker + 1;
  rows = taking.tracker;
}

abbrev pub taken_change : Heading → Taking → Change
taken_change heading taking = change_to (taken_checkpoint heading taking) (flagged taking.changed.items taking.tracker)

-- what is to be kept: the next checkpoint, and the change to it
pub record Keeping : Type 0 where
  pub after : Checkpoint
  pub change : Change

abbrev pub keeping_of : Heading → Taking → Keeping
keeping_of heading taking = record { after = taken_checkpoint heading taking; change = taken_change heading taking }
