use Rattle.checkpoint_journal.proofs.JournalLaws.{one_bad, bad_no_journal, bad_slot}
use Rattle.checkpoint_journal.proofs.laws.a_bad_image_has_one_place.Goals as goal

pub returns-clause-place : goal.returns-clause-place
returns-clause-place c = one_bad

pub returns-clause-no_journal : goal.returns-clause-no_journal
returns-clause-no_journal c = bad_no_journal

pub returns-clause-slot : goal.returns-clause-slot
returns-clause-slot c = bad_slot
