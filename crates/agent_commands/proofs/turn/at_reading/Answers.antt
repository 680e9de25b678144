use Rattle.agent_commands.proofs.turn.at_reading.Goals as goal

pub returns-clause-at : goal.returns-clause-at
returns-clause-at g c = record { now = c.now.result; read = c.now.ensures; is = c.at.ensures.time }
