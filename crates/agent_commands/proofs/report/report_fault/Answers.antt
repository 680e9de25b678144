use Rattle.std.proofs.Common.{rules}
use Rattle.agent_commands.proofs.report.report_fault.Goals as goal

pub returns-in-Memory-clause-part : goal.returns-in-Memory-clause-part
returns-in-Memory-clause-part g c = rw c.in-Memory.is (search rules)
