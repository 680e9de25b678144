use Rattle.std.proofs.Common.{length, refl, ap, subst, arith}
use Rattle.mem_world.specs.MemDisk.{seen_of}
use Rattle.checkpoint_journal.specs.JournalOf.{FoundIn}
use Rattle.crash_tests.proofs.Resting.{at_rest}
use Rattle.crash_tests.proofs.journals.opened.Goals as goal

pub returns-else-bytes-journal-clause-stands : goal.returns-else-bytes-journal-clause-stands
returns-else-bytes-journal-clause-stands c =
    let disk = c.in_ok-disk.disk in
    at_rest disk c.peek.new.disk c.in-Some.journal c.in-Some.checkpoint c.in_ok-disk.ensures.durable c.in_ok-journal.ensures.only_read
    (subst (λ found. FoundIn found (seen_of disk)) c.in-Some.is (c.in_ok-journal.ensures.found refl))
    (omega (arith, ap length c.bytes.ensures, ap (λ seen. length (seen c.in-Some.journal.slot.file)) c.in_ok-journal.ensures.only_read.seen))
