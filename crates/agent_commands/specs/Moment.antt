-- The outside of a command at one moment, and what it means.
use Rattle.outside.specs.ClockMeaning.{ClockMeaning}
use Rattle.outside.specs.DiskMeaning.{DiskMeaning}
use Rattle.outside.specs.StreamMeaning.{SinkMeaning}
use Rattle.outside.specs.TreeMeaning.{TreeMeaning}

pub record Moment (T D K C : Type 0) : Type 0 where
  pub tree : T
  pub disk : D
  pub report : K
  pub clock : C

abbrev pub moment : {T D K C : Type 0} → T → D → K → C → Moment T D K C
moment tree disk report clock = record { tree = tree; disk = disk; report = report; clock = clock }

pub record Meanings (T D K C : Type 0) : Type 1 where
  pub trees : TreeMeaning T
  pub disks : DiskMeaning D
  pub reports : SinkMeaning K
  pub clocks : ClockMeaning C

abbrev pub meanings : {T D K C : Type 0} → TreeMeaning T → DiskMeaning D → SinkMeaning K → ClockMeaning C → Meanings T D K C
meanings trees disks reports clocks = record { trees = trees; disks = disks; reports = reports; clocks = clocks }
