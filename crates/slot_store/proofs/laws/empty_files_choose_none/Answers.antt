use Rattle.std.proofs.Common.{length, ap, arith}
use Rattle.outside.specs.declared.disk.DiskFile.TheVariants.{SlotA, SlotB}
use Rattle.slot_store.proofs.Choices.{none_chosen}
use Rattle.slot_store.proofs.Tears.{closed_when_short}
use Rattle.slot_store.proofs.laws.empty_files_choose_none.Goals as goal

pub returns : goal.returns
returns c image first second =
    none_chosen image (closed_when_short (image SlotA) (omega (arith, ap length first))) (closed_when_short (image SlotB) (omega (arith, ap length second)))
