-- Faults, and calls that are set to fail.
use Rattle.std.specs.Prelude.{◌+◌, ◌-◌, ◌≤◌, length}
use Rattle.mem_world.specs.declared.tree.failures.Failures.TheInside.{Inside}
use Rattle.mem_world.specs.TreeFailures.{Failing, still}

abbrev pub failing : Inside → Failing
failing inside = record {
  count = inside.count;
  spare = inside.base + length inside.calls.items - inside.count;
  calls = inside.calls.items;
}

-- each failure that is still to come raises the count by one
abbrev pub IsWithin : Inside → Type 0
IsWithin inside = inside.count + still inside.calls.items ≤ inside.base + length inside.calls.items
