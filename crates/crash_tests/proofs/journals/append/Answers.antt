use Rattle.std.proofs.Common.{sym, subst}
use Rattle.mem_world.specs.MemDisk.{disk_images}
use Rattle.slot_store.specs.Synced.{EachLeft}
use Rattle.checkpoint_store.specs.declared.Change.{Change}
use Rattle.checkpoint_journal.specs.Written.{Awaits}
use Rattle.crash_tests.proofs.Resting.{awaits}
use Rattle.crash_tests.proofs.journals.append.Goals as goal

pub append-result-requires-clause-stands : goal.append-result-requires-clause-stands
append-result-requires-clause-stands c =
    let next = c.is_next.ensures c.if-not-is_next.false in
    subst (λ (change : Change). EachLeft disk_images c.set.new.disk (Awaits c.args.opened.journal change)) (sym c.parts_of-parts.ensures)
    (awaits c.args.opened.disk c.set.new.disk c.args.opened.journal c.args.opened.checkpoint c.in_ok-change.change c.set.ensures c.requires.stands
    (c.in_ok-change.ensures.fits c.args.opened.checkpoint next.2 next.3 next.4 next.5))
