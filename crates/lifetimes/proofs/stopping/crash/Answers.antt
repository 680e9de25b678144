use Rattle.std.proofs.Common.{◌≡◌, sym, subst}
use Rattle.lifetimes.proofs.DiskLemmas.{leaves_crashed}
use Rattle.lifetimes.specs.Inner.Past.{LeavesAt}
use Rattle.mem_world.specs.DiskFiles.{tear_of}
use Rattle.out_segments.specs.CrashOutcome.{left_by}
use Rattle.mem_world.specs.DiskFiles.{calls_of}
use Rattle.mem_world.specs.MemDisk.{history_of, seen_of}
use Rattle.mem_world.specs.declared.disk.MemDisk.{MemDisk}
use Rattle.lifetimes.proofs.stopping.crash.Goals as goal

pub returns-clause-left : goal.returns-clause-left
returns-clause-left c = λ rules past failures leaves.
    let stopped : LeavesAt rules past c.replace-stopped.result = subst (λ (d : MemDisk). LeavesAt rules past d) (sym c.replace-stopped.ensures.value) leaves in
    leaves_crashed rules past failures c.replace-stopped.result c.in_ok-disk.field-0 c.in_ok-disk.ensures.image c.in_ok-disk.ensures.durable c.in_ok-disk.ensures.fresh stopped

pub returns-clause-outcome : goal.returns-clause-outcome
returns-clause-outcome c = λ file.
    subst (λ (d : MemDisk). seen_of c.in_ok-disk.field-0 file ≡ left_by (tear_of c.args.outcome file) (calls_of file (history_of d))) c.replace-stopped.ensures.value (c.in_ok-disk.ensures.torn file)
