use Rattle.std.proofs.Common.{◌≡◌, ◌≤◌, ◌+◌, ◌-◌, length, IsTrue}
use Rattle.outside.specs.declared.disk.DiskFile.TheVariants.{Output}
use Rattle.pipeline.specs.Parts.{settings_of}
use Rattle.pipeline.specs.Searched.{StaysSearched}
use Rattle.file_pass.specs.DiskTerms.{KeepsDisk}
use Rattle.file_pass.specs.Fed.{IsReading, IsSane}
use Rattle.file_pass.specs.Moment.{feeding_at, meanings, moment}
use Rattle.file_pass.specs.TreeTerms.{KeepsTree}
use Rattle.file_pass.proofs.feeding.read_on.Given as goal

abbrev pub invariant-loop-from : goal.invariant-loop-from
invariant-loop-from g l =
    let trees = g.T.Tree.meaning in
    let disks = g.D.Disk.meaning in
    record {
      reading : IsReading (meanings trees disks) l.setup l.from (feeding_at l.fn.feeding l.fn.end (moment l.fn.tree l.fn.disk)) (feeding_at l.feeding l.end (moment l.tree l.disk));
      searched : StaysSearched (settings_of l.setup.pipeline.now) l.feeding.carried.items l.feeding.searched;
      sane : IsSane l.setup l.feeding l.end;
      offset : l.feeding.offset + length l.feeding.carried.items ≡ l.from;
      later : l.fn.end ≤ l.end;
      ends : IsTrue (disks.images.tells l.disk) → length (disks.images.seen l.disk Output) ≡ l.end;
      keeps_tree : KeepsTree trees (length l.fn.buffer) (l.from - l.fn.feeding.offset) l.fn.tree l.tree;
      keeps_disk : KeepsDisk disks l.fn.end l.fn.disk l.disk;
      stood : disks.faults l.disk ≡ disks.faults l.fn.disk;
      long : length l.buffer ≡ length l.fn.buffer;
    }

abbrev pub decreases-loop-from : goal.decreases-loop-from
decreases-loop-from g l = l.last - l.from
