use Rattle.agent_commands.proofs.OneLine.{one_thing}
use Rattle.agent_commands.proofs.control.a_line_asks_one_thing.Goals as goal

pub returns : goal.returns
returns c = one_thing
