-- The outside of a pass at one moment, with what is in memory then, and what the outside means.
use Rattle.std.specs.Prelude.{ℕ, List}
use Rattle.file_tracker.specs.declared.row.Row.{Row}
use Rattle.outside.specs.DiskMeaning.{DiskMeaning}
use Rattle.outside.specs.TreeMeaning.{TreeMeaning}
use Rattle.file_pass.specs.declared.feeding.Feeding.{Feeding}
use Rattle.file_pass.specs.declared.taking.Taking.{Taking}

pub record Meanings (T D : Type 0) : Type 1 where
  pub trees : TreeMeaning T
  pub disks : DiskMeaning D

abbrev pub meanings : {T D : Type 0} → TreeMeaning T → DiskMeaning D → Meanings T D
meanings trees disks = record { trees = trees; disks = disks }

pub record Moment (T D : Type 0) : Type 0 where
  pub tree : T
  pub disk : D

abbrev pub moment : {T D : Type 0} → T → D → Moment T D
moment tree disk = record { tree = tree; disk = disk }

-- between two paths of a pass
pub record TakingAt (T D : Type 0) : Type 0 where
  pub taking : Taking
  pub outside : Moment T D

abbrev pub taking_at : {T D : Type 0} → Taking → Moment T D → TakingAt T D
taking_at taking outside = record { taking = taking; outside = outside }

-- the rows then, and the place where the output ends
pub record RowsAt (T D : Type 0) : Type 0 where
  pub rows : List Row
  pub end : ℕ
  pub outside : Moment T D

abbrev pub rows_at : {T D : Type 0} → Taking → Moment T D → RowsAt T D
rows_at taking outside = record { rows = taking.tracker; end = taking.end; outside = outside }

-- between two reads of a file, with the place where the output ends
pub record FeedingAt (T D : Type 0) : Type 0 where
  pub feeding : Feeding
  pub end : ℕ
  pub outside : Moment T D

abbrev pub feeding_at : {T D : Type 0} → Feeding → ℕ → Moment T D → FeedingAt T D
feeding_at feeding end outside = record { feeding = feeding; end = end; outside = outside }
