use Rattle.agent_commands.proofs.Settings.{too_long}
use Rattle.agent_commands.proofs.opening.read_settings.Goals as goal

pub returns-then-size-clause-fault : goal.returns-then-size-clause-fault
returns-then-size-clause-fault g c = λ told. too_long _ c.in_ok-size.size (c.in_ok-size.ensures.length told) c.if-size.true
