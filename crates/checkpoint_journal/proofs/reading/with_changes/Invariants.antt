use Rattle.std.proofs.Common.{◌≡◌, ℕ, ◌+◌, ◌≤◌, length, drop}
use Rattle.std.specs.Prelude.{map, sum_by}
use Rattle.slot_store.specs.Frame.{last_number}
use Rattle.checkpoint_store.specs.declared.Checkpoint.{Checkpoint}
use Rattle.checkpoint_journal.specs.Inner.Places.{FailsBehind}
use Rattle.checkpoint_journal.specs.Says.{AreChanges, FailsIn}
use Rattle.checkpoint_journal.proofs.reading.with_changes.Given as goal

-- what holds of the records that are left holds of all
abbrev pub invariant-loop-payload : goal.invariant-loop-payload
invariant-loop-payload l =
    record {
      changes : (after : Checkpoint) → AreChanges l.version l.checkpoint (map (λ payload. payload.items) (drop l.payload-index l.records)) after → AreChanges l.version l.fn.first (map (λ payload. payload.items) l.records) after;
      place : l.begin + sum_by (λ payload. length payload + 17) (map (λ payload. payload.items) l.records) ≤ last_number
          → l.place + sum_by (λ payload. length payload + 17) (map (λ payload. payload.items) (drop l.payload-index l.records)) ≡ l.begin + sum_by (λ payload. length payload + 17) (map (λ payload. payload.items) l.records);
      fails : l.begin + sum_by (λ payload. length payload + 17) (map (λ payload. payload.items) l.records) ≤ last_number
          → (fault : ℕ) → FailsIn l.version l.checkpoint (map (λ payload. payload.items) (drop l.payload-index l.records)) fault → FailsBehind l.version l.begin l.fn.first (map (λ payload. payload.items) l.records) (l.place + fault);
    }
