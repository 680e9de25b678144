use Rattle.std.proofs.Common.{ℕ, List, ◌++◌, ◌-◌, ◌≤◌, length}
use Rattle.std.specs.Prelude.{map}
use Rattle.record_log.specs.Records.{HasRecords}
use Rattle.record_log.proofs.parsing.parse.Given as goal

-- whatever follows, the records so far stand before it
abbrev pub invariant-loop-head : goal.invariant-loop-head
invariant-loop-head l = record {
  within : l.tail.end ≤ length l.bytes;
  walked : (more : List (List ℕ)) (final newest : ℕ) → HasRecords l.bytes l.tail.end l.tail.sequence more final newest → HasRecords l.bytes 0 l.sequence (map (λ payload. payload.items) l.tail.records.items ++ more) final newest;
}

abbrev pub decreases-loop-head : goal.decreases-loop-head
decreases-loop-head l = length l.bytes - l.tail.end
