use Rattle.auditor.proofs.Moving.{holds_on, held_before}
use Rattle.auditor.proofs.laws.first_bytes_are_enough.Goals as goal

pub returns-clause-all : goal.returns-clause-all
returns-clause-all c = holds_on

pub returns-clause-first : goal.returns-clause-first
returns-clause-first c = held_before
