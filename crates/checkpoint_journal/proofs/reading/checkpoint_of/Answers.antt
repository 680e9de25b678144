use Rattle.std.proofs.Common.{arith}
use Rattle.std.proofs.lemmas.Result.{IfOk-weaker, err_from_is_err_and}
use Rattle.std.specs.Prelude.{map, slice_index}
use Rattle.checkpoint_store.specs.declared.Checkpoint.{Checkpoint}
use Rattle.checkpoint_journal.proofs.ReadingLemmas.{record_fails}
use Rattle.checkpoint_journal.proofs.SaysLemmas.{says_read}
use Rattle.checkpoint_journal.specs.Says.{AreChanges, Says, in_base}
use Rattle.checkpoint_journal.proofs.reading.checkpoint_of.Goals as goal

pub returns-in_err-first-clause-bad : goal.returns-in_err-first-clause-bad
returns-in_err-first-clause-bad c at bad room =
    let told = err_from_is_err_and c.from_residual.result c.from_residual.ensures.1 in
    in_base at (c.in_err-first.ensures.bad at (cc (bad, told.1, told.2)) (omega arith))

pub returns-clause-bad : goal.returns-clause-bad
returns-clause-bad c at bad room =
    record_fails c.version_of-version.result c.args.base.now (map (λ payload. payload.items) c.args.records.now) c.in_ok-first.first at c.in_ok-first.ensures.spells c.version_of-version.ensures
    (c.with_changes.ensures.bad at bad (omega arith))

pub returns-clause-says : goal.returns-clause-says
returns-clause-says c =
    let base = c.args.base.now in
    let records = map (λ payload. payload.items) c.args.records.now in
    let version = c.version_of-version.result in
    IfOk-weaker c.with_changes.result (λ (checkpoint : Checkpoint). AreChanges version c.in_ok-first.first records checkpoint) (λ (checkpoint : Checkpoint). Says (slice_index base 0) base records checkpoint)
    (λ checkpoint changes. says_read version base records c.in_ok-first.first checkpoint c.in_ok-first.ensures.spells c.version_of-version.ensures changes) c.with_changes.ensures.changes
