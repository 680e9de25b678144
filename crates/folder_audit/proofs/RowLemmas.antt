-- Rows in order, and the states that they keep.
use Rattle.std.proofs.Common.{length, arith}
use Rattle.checkpoint_journal.proofs.RowLemmas.{kept_from}
use Rattle.checkpoint_store.specs.Limits.{newest}
use Rattle.checkpoint_store.specs.Rules.{IsCheckpoint, beside_of}
use Rattle.checkpoint_store.specs.declared.Checkpoint.{Checkpoint}
use Rattle.folder_audit.specs.KeptFiles.{AreFitRows}

-- ---- the rules of a checkpoint

pub fit_rows : (checkpoint : Checkpoint) → IsCheckpoint newest checkpoint → AreFitRows (length checkpoint.eras) checkpoint.rows
fit_rows checkpoint lawful place row at =
    let found = kept_from (beside_of newest checkpoint.eras checkpoint.output_length) 1 checkpoint.rows lawful.rows place row at in
    let keeps = found.0 in
    record {
      order = record { rise = keeps.past.ends; offset = keeps.offset; records = keeps.records };
      begun = keeps.start;
      id = found.1;
      born = keeps.past.born.0;
      parts = keeps.past.eras (omega arith);
      lines = omega (arith, keeps.lines, lawful.output_length);
    }
