use Rattle.checkpoint_journal.proofs.JournalLaws.{old_or_changed, old_or_new}
use Rattle.checkpoint_journal.proofs.laws.the_checkpoint_is_old_or_new.Goals as goal

pub returns-clause-append : goal.returns-clause-append
returns-clause-append c = old_or_changed

pub returns-clause-rewrite : goal.returns-clause-rewrite
returns-clause-rewrite c = old_or_new
