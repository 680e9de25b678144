-- What stands goes on standing.
use Rattle.std.proofs.Common.{ℕ, List, take}
use Rattle.outside.specs.World.{History}
use Rattle.standing.specs.Eras.{Eras, AreEras}
use Rattle.standing.specs.Marks.{Mark, of_id}
use Rattle.standing.specs.Moments.{IsLater}
use Rattle.standing.specs.Rows.{Row, Checkpoint}
use Rattle.standing.specs.Standing.{Found, nothing, damaged, found, Standing}
use Rattle.standing.specs.Stands.{LinesStand, Stands, CheckpointStands}
use Rattle.standing.proofs.RowLemmas.{row_lasts}

module _ (eras : Eras) (laws : AreEras eras) where
  pub lines_last : (old new : History) (rows : List Row) (next_id : ℕ) (marks : List Mark) → IsLater old new → LinesStand eras old rows next_id marks → LinesStand eras new rows next_id marks
  lines_last old new rows next_id marks later stand = record {
    ids = stand.ids;
    each_row = λ place row at. row_lasts eras laws old new row (of_id row.id marks) later (stand.each_row place row at);
    fronts_apart = stand.fronts_apart;
    no_other_line = stand.no_other_line;
  }

  pub stands_last : (old new : History) (rows : List Row) (next_id : ℕ) (output : List ℕ) → IsLater old new → Stands eras old rows next_id output → Stands eras new rows next_id output
  stands_last old new rows next_id output later stands = record {
    marks = stands.marks;
    whole_lines = stands.whole_lines;
    lines_stand = lines_last old new rows next_id stands.marks later stands.lines_stand;
  }

  pub checkpoint_lasts : (old new : History) (checkpoint : Checkpoint) (file : List ℕ) → IsLater old new → CheckpointStands eras old checkpoint file → CheckpointStands eras new checkpoint file
  unfolding stands_last
  checkpoint_lasts old new checkpoint file later stands = record {
    sound = stands.sound;
    stands = stands_last old new checkpoint.rows checkpoint.next_id (take checkpoint.output_length file) later stands.stands;
    times = stands.times;
  }

  pub standing_lasts : (old new : History) (there : Found) (file : List ℕ) → IsLater old new → Standing eras old there file → Standing eras new there file
  standing_lasts old new nothing file later standing = standing
  standing_lasts old new damaged file later standing = standing
  standing_lasts old new (found checkpoint) file later standing = checkpoint_lasts old new checkpoint file later standing
