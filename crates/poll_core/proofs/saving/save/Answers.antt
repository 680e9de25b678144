use Rattle.std.proofs.Common.{subst}
use Rattle.checkpoint_store.specs.Parts.{checkpoint_of_parts}
use Rattle.checkpoint_store.specs.declared.Checkpoint.{Checkpoint}
use Rattle.outside.specs.Crash.{Passes}
use Rattle.outside.specs.declared.disk.DiskFile.TheVariants.{Output}
use Rattle.poll_core.proofs.SaveLemmas.{early_after_same, fewer_left, one_synced, saves_after}
use Rattle.poll_core.proofs.saving.save.Goals as goal
use Rattle.poll_core.specs.Saves.{Saves}

pub returns-in_err-journal-clause-early : goal.returns-in_err-journal-clause-early
returns-in_err-journal-clause-early g c fewer =
    let done = g.D.Disk.meaning.done in
    early_after_same c.args.journal c.sync.ensures.crash
    (c.put.ensures.early (fewer_left 4 (done c.args.disk.now) (done c.sync.new.self) (done c.put.new.disk) c.in_ok-sync.ensures.done fewer))

pub returns-clause-one : goal.returns-clause-one
returns-clause-one g c =
    let images = g.D.Disk.meaning.images in
    c.in_ok-journal.ensures.one (one_synced c.requires.slots (record { crash = c.sync.ensures.crash; durable = c.in_ok-sync.ensures.durable; seen = c.sync.ensures.seen }))

pub returns-clause-early : goal.returns-clause-early
returns-clause-early g c fewer =
    let done = g.D.Disk.meaning.done in
    early_after_same c.args.journal c.sync.ensures.crash
    (c.put.ensures.early (fewer_left 4 (done c.args.disk.now) (done c.sync.new.self) (done c.put.new.disk) c.in_ok-sync.ensures.done fewer))

pub returns-clause-crash : goal.returns-clause-crash
returns-clause-crash g c =
    let images = g.D.Disk.meaning.images in
    subst (λ (after : Checkpoint). Passes images (Saves c.args.journal after (images.seen c.args.disk.now Output)) c.args.disk.now c.put.new.disk) c.next_of-next.ensures.checkpoint
    (saves_after c.args.journal (checkpoint_of_parts c.next_of-next.result.checkpoint)
    (record { crash = c.sync.ensures.crash; durable = c.in_ok-sync.ensures.durable; seen = c.sync.ensures.seen }) c.put.ensures.crash)
