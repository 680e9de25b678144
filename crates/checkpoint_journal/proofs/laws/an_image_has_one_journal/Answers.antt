use Rattle.checkpoint_journal.proofs.JournalLaws.{one_journal, one_said, journal_known, journal_lawful, journal_rewritable}
use Rattle.checkpoint_journal.proofs.laws.an_image_has_one_journal.Goals as goal

pub returns-clause-journal : goal.returns-clause-journal
returns-clause-journal c = one_journal

pub returns-clause-checkpoint : goal.returns-clause-checkpoint
returns-clause-checkpoint c = one_said

pub returns-clause-version : goal.returns-clause-version
returns-clause-version c = journal_known

pub returns-clause-lawful : goal.returns-clause-lawful
returns-clause-lawful c = journal_lawful

pub returns-clause-newest : goal.returns-clause-newest
returns-clause-newest c = journal_rewritable
