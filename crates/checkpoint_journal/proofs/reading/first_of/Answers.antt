use Rattle.checkpoint_journal.proofs.ReadingLemmas.{base_told}
use Rattle.checkpoint_journal.proofs.reading.first_of.Goals as goal

pub returns-in-Err-clause-bad : goal.returns-in-Err-clause-bad
returns-in-Err-clause-bad c at bad short = base_told c.args.base.now c.in-Err.fault c.told.result at c.in-Err.ensures c.told.ensures (cc bad) short
