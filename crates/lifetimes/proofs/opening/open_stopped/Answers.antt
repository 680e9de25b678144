use Rattle.lifetimes.proofs.DiskLemmas.{leaves_reopened, leaves_same}
use Rattle.lifetimes.proofs.PollLemmas.{is_stopped}
use Rattle.lifetimes.specs.Stopped.{halt_of}
use Rattle.lifetimes.proofs.opening.open_stopped.Goals as goal

pub returns-clause-disk : goal.returns-clause-disk
returns-clause-disk c = λ rules past failures at.
    c.in_ok-crash.ensures.left rules past failures
    (leaves_reopened rules past c.fuse.new.self c.open.new.disk c.open.ensures.crash (leaves_same rules past c.args.disk.now c.fuse.new.self c.fuse.ensures.history at.leaves))

pub returns-clause-stopped : goal.returns-clause-stopped
returns-clause-stopped c =
    is_stopped (halt_of c.args.stopping) c.args.disk.now c.fuse.new.self c.open.new.disk c.crash.new.disk c.fuse.ensures.history c.open.ensures.crash.later c.fuse.ensures.limit
    c.open.ensures.calls.terms.limit c.disk_keeps_its_terms.ensures.limit c.in_ok-crash.ensures.outcome
