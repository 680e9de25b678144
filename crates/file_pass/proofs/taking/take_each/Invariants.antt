use Rattle.std.proofs.Common.{◌≡◌, ◌+◌, length, take}
use Rattle.std.specs.Prelude.{IsTrue}
use Rattle.outside.specs.declared.disk.DiskFile.TheVariants.{Output}
use Rattle.file_pass.specs.AllTaken.{TakesAll}
use Rattle.file_pass.specs.DiskTerms.{KeepsDisk}
use Rattle.file_pass.specs.Moment.{meanings, moment, taking_at}
use Rattle.file_pass.specs.Sane.{IsSaneTaking}
use Rattle.file_pass.specs.Taken.{KeepsTreeAt}
use Rattle.file_pass.specs.Unchanged.{FlagsGrown}
use Rattle.file_pass.specs.declared.taking.TheConstants.{BUFFER_SIZE, FRONT_SIZE}
use Rattle.file_pass.proofs.taking.take_each.Given as goal

abbrev pub invariant-loop-path : goal.invariant-loop-path
invariant-loop-path g l = record {
  taken : TakesAll (meanings g.T.Tree.meaning g.D.Disk.meaning) l.setup (take l.path-index l.paths) (taking_at l.fn.taking (moment l.fn.tree l.fn.disk)) (taking_at l.taking (moment l.tree l.disk));
  sane : IsSaneTaking l.setup l.taking;
  flags : FlagsGrown l.setup l.fn.taking l.taking;
  keeps_tree : KeepsTreeAt g.T.Tree.meaning BUFFER_SIZE l.fn.tree l.tree;
  keeps_disk : KeepsDisk g.D.Disk.meaning l.fn.taking.end l.fn.disk l.disk;
  stood : g.D.Disk.meaning.faults l.disk ≡ g.D.Disk.meaning.faults l.fn.disk;
  long : length l.buffer.items ≡ FRONT_SIZE + BUFFER_SIZE;
  ends : IsTrue (g.D.Disk.meaning.images.tells l.disk) → length (g.D.Disk.meaning.images.seen l.disk Output) ≡ l.taking.end;
}
