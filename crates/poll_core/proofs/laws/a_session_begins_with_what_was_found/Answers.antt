use Rattle.poll_core.proofs.SessionLemmas.{begins_with, first_found, found_first}
use Rattle.poll_core.proofs.laws.a_session_begins_with_what_was_found.Goals as goal
use Rattle.poll_core.specs.SessionParts.{checkpoint_of_session, journal_of_session}

pub returns-clause-checkpoint : goal.returns-clause-checkpoint
returns-clause-checkpoint c = begins_with

pub returns-clause-first : goal.returns-clause-first
returns-clause-first c session image there goes_on has = (
  first_found (journal_of_session session) (checkpoint_of_session session) image there goes_on.memory has,
  found_first (journal_of_session session) (checkpoint_of_session session) image there goes_on.memory has,
)
