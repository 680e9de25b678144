-- What is planned for the calls of a device in memory.
use Rattle.std.specs.Prelude.{ℕ, List, Option}
use Rattle.mem_calls.specs.declared.fuse.Fuse.{Fuse}
use Rattle.mem_calls.specs.declared.plans.Plans.{Plans}

abbrev pub fuse_of : Plans → Option Fuse
fuse_of plans = plans.fuse

abbrev pub ahead_of : Plans → List ℕ
ahead_of plans = plans.failures.ahead.items

abbrev pub faults_of : Plans → ℕ
faults_of plans = plans.failures.faults

abbrev pub base_of : Plans → ℕ
base_of plans = plans.base
