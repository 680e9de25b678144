use Rattle.std.proofs.Common.{sym, subst}
use Rattle.slot_store.specs.Synced.{EachLeft}
use Rattle.mem_world.specs.MemDisk.{disk_images}
use Rattle.record_log.specs.LogOf.{EndsWith}
use Rattle.record_log.specs.declared.log.Log.{Log}
use Rattle.crash_tests.proofs.Resting.{same_history, ends_again}
use Rattle.crash_tests.proofs.logs.crashed_append.Goals as goal

pub append-result-requires-clause-stands : goal.append-result-requires-clause-stands
append-result-requires-clause-stands c =
    same_history c.append.new.disk c.set.new.disk c.set.ensures
    (subst (λ (log : Log). EachLeft disk_images c.append.new.disk (EndsWith log)) (sym c.in_ok-log.ensures.log)
    (ends_again c.in_ok-disk.log _ c.in_ok-disk.ensures.stands c.in_ok-log.ensures.appended))
