use Rattle.std.proofs.Common.{length, ◌-◌, ◌≡◌, ◌≤◌, IsTrue}
use Rattle.slot_store.specs.OnlyRead.{OnlyRead}
use Rattle.slot_store.proofs.Filling.{IsFilled}
use Rattle.slot_store.proofs.reading.fill.Given as goal

-- the front of the buffer is the file's from the place on, and the disk has done nothing but read
abbrev pub invariant-loop-filled : goal.invariant-loop-filled
invariant-loop-filled g l =
    let meaning = g.D.Disk.meaning in
    record {
      within : l.filled ≤ length l.buf;
      front : IsTrue (meaning.images.tells l.fn.disk) → IsFilled l.offset (meaning.images.seen l.fn.disk l.file) l.buf l.filled;
      cause : meaning.faults l.disk ≡ meaning.faults l.fn.disk;
      only_read : OnlyRead meaning l.fn.disk l.disk;
    }

abbrev pub decreases-loop-filled : goal.decreases-loop-filled
decreases-loop-filled g l = length l.initial.buf - l.filled
