use Rattle.std.proofs.Common.{refl}
use Rattle.standing.specs.Example.{line_text}
use Rattle.standing.proofs.ApartLemmas.{told_apart}
use Rattle.standing.proofs.PolledLemmas.{first_poll, second_poll}
use Rattle.standing.proofs.RotatedLemmas.{second_stands}
use Rattle.standing.proofs.examples.a_renamed_file_is_read_on.Goals as goal

pub returns-clause-first : goal.returns-clause-first
returns-clause-first c = first_poll

pub returns-clause-second : goal.returns-clause-second
returns-clause-second c = second_poll

pub returns-clause-output : goal.returns-clause-output
unfolding line_text
returns-clause-output c = refl

pub returns-clause-stands : goal.returns-clause-stands
returns-clause-stands c = second_stands

pub returns-clause-apart : goal.returns-clause-apart
returns-clause-apart c = told_apart
