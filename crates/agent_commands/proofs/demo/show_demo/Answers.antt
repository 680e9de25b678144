use Rattle.agent_commands.specs.DemoEnds.{failed, no_memory, tells, unplayed}
use Rattle.agent_commands.proofs.demo.show_demo.Goals as goal

pub returns-in-Err-clause-ends : goal.returns-in-Err-clause-ends
returns-in-Err-clause-ends g c = rw c.refuse.ensures.status (unplayed c.refuse.ensures.told)

pub returns-in-Ok-report_demo-clause-ends : goal.returns-in-Ok-report_demo-clause-ends
returns-in-Ok-report_demo-clause-ends g c = tells (record { demo = c.in-Ok.shown; is_demo = c.in-Ok.ensures; told = c.in-Ok-report_demo.ensures.ok })

pub returns-in-Err-Failed-clause-ends : goal.returns-in-Err-Failed-clause-ends
returns-in-Err-Failed-clause-ends g c = failed (record { demo = c.in-Ok.shown; is_demo = c.in-Ok.ensures; told = c.report_demo.ensures.part })

pub returns-in-Err-Memory-clause-ends : goal.returns-in-Err-Memory-clause-ends
returns-in-Err-Memory-clause-ends g c = no_memory (record { demo = c.in-Ok.shown; is_demo = c.in-Ok.ensures; told = c.report_demo.ensures.part })
