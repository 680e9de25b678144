use Rattle.std.proofs.Common.{◌≡◌, [], length, ap, sym, subst, ◌∙◌, arith}
use Rattle.outside.specs.Image.{Image}
use Rattle.outside.specs.declared.disk.DiskFile.{DiskFile}
use Rattle.outside.specs.declared.disk.DiskFile.TheVariants.{SlotA, SlotB}
use Rattle.slot_store.proofs.Choices.{none_chosen}
use Rattle.slot_store.proofs.Tears.{closed_when_short}
use Rattle.slot_store.specs.Synced.{EachLeft}
use Rattle.mem_world.specs.MemDisk.{disk_images, MayLeave}
use Rattle.record_log.specs.LogOf.{EndsWith}
use Rattle.record_log.specs.declared.log.Log.{Log}
use Rattle.crash_tests.proofs.logs.started.Goals as goal

pub returns-clause-stands : goal.returns-clause-stands
returns-clause-stands c =
    let disk = c.in_ok-disk.disk in
    let empty : (image : Image DiskFile) (file : DiskFile) → MayLeave disk image → image file ≡ [] = λ image file left. c.in_ok-disk.ensures.durable file image left ∙ c.in_ok-disk.ensures.empty file in
    let rewritten = c.in_ok-log.ensures.rewritten (record {
      each = λ image left. none_chosen image (closed_when_short (image SlotA) (omega (arith, ap length (empty image SlotA left)))) (closed_when_short (image SlotB) (omega (arith, ap length (empty image SlotB left))));
    }) in
    subst (λ (log : Log). EachLeft disk_images c.rewrite.new.disk (EndsWith log)) (sym c.in_ok-log.ensures.log)
    (record {
      each = λ image left.
          let is = rewritten.each image left in
          record { base = c.args.base.items; records = []; log_is = is.log_is; ends = is.ends };
    })
