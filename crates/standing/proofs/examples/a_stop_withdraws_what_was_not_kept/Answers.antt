use Rattle.std.proofs.Common.{refl}
use Rattle.standing.specs.Example.{line_text}
use Rattle.standing.proofs.examples.a_stop_withdraws_what_was_not_kept.Goals as goal

pub returns-clause-withdrawn : goal.returns-clause-withdrawn
returns-clause-withdrawn c = refl

pub returns-clause-again : goal.returns-clause-again
unfolding line_text
returns-clause-again c = refl
