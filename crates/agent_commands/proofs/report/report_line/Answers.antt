use Rattle.agent_commands.proofs.Reporting.{grows_part_told}
use Rattle.agent_commands.proofs.report.report_line.Goals as goal

pub returns-clause-part : goal.returns-clause-part
returns-clause-part g c = grows_part_told _ _ _ _ (rw c.as_bytes.ensures.value at c.write.ensures.written)
