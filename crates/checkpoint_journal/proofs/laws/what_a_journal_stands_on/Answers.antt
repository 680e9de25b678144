use Rattle.record_log.proofs.LogLaws.{log_room}
use Rattle.checkpoint_journal.proofs.JournalLaws.{journal_cut, journal_of_slots}
use Rattle.checkpoint_journal.specs.JournalOf.{log_of}
use Rattle.checkpoint_journal.proofs.laws.what_a_journal_stands_on.Goals as goal

pub returns-clause-within : goal.returns-clause-within
returns-clause-within c image journal checkpoint has = (log_room image (log_of journal) has.base has.records has.log_is).within

pub returns-clause-in_range : goal.returns-clause-in_range
returns-clause-in_range c image journal checkpoint has = (log_room image (log_of journal) has.base has.records has.log_is).in_range

pub returns-clause-cut : goal.returns-clause-cut
returns-clause-cut c = journal_cut

pub returns-clause-slots : goal.returns-clause-slots
returns-clause-slots c = journal_of_slots
