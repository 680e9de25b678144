use Rattle.poll_core.proofs.ImageLemmas.{journal_kept, checkpoint_kept, bad_kept, found_kept, sequence_kept, kept_stays, sound_still, standing_still}
use Rattle.poll_core.proofs.laws.opening_keeps_what_stands.Goals as goal

pub returns-clause-found : goal.returns-clause-found
returns-clause-found c old new there reopens has = found_kept reopens.logs there has

pub returns-clause-sound : goal.returns-clause-sound
returns-clause-sound c = sound_still

pub returns-clause-standing : goal.returns-clause-standing
returns-clause-standing c = standing_still

pub returns-clause-kept : goal.returns-clause-kept
returns-clause-kept c = kept_stays

pub returns-clause-journal : goal.returns-clause-journal
returns-clause-journal c old new journal checkpoint reopens has = journal_kept reopens.logs journal checkpoint has

pub returns-clause-checkpoint : goal.returns-clause-checkpoint
returns-clause-checkpoint c old new checkpoint reopens has = checkpoint_kept reopens.logs checkpoint has

pub returns-clause-bad : goal.returns-clause-bad
returns-clause-bad c old new at reopens bad = bad_kept reopens.logs at bad

pub returns-clause-sequence : goal.returns-clause-sequence
returns-clause-sequence c old new sequence reopens has = sequence_kept reopens.logs sequence has
