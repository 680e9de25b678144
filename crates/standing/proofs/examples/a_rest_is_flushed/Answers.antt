use Rattle.std.proofs.Common.{refl}
use Rattle.standing.specs.Example.{line_text}
use Rattle.standing.proofs.WorkedLemmas.{still_first, still_second, still_third}
use Rattle.standing.proofs.examples.a_rest_is_flushed.Goals as goal

pub returns-clause-first : goal.returns-clause-first
returns-clause-first c = still_first

pub returns-clause-second : goal.returns-clause-second
returns-clause-second c = still_second

pub returns-clause-third : goal.returns-clause-third
returns-clause-third c = still_third

pub returns-clause-output : goal.returns-clause-output
unfolding line_text
returns-clause-output c = refl
