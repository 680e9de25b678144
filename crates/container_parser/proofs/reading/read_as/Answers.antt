use Rattle.std.proofs.Common.{sym}
use Rattle.container_parser.specs.declared.fault.ContainerFault.TheVariants.{NotDocker}
use Rattle.container_parser.proofs.LinesRead.{line_is_read, line_is_none}
use Rattle.container_parser.proofs.reading.read_as.Goals as goal

pub returns-in-Ok : goal.returns-in-Ok
returns-in-Ok c = sym (line_is_read c.args.format c.args.line.now c.in-Ok.read c.in-Ok.ensures.ok)

pub returns-in-Err-NotDocker : goal.returns-in-Err-NotDocker
returns-in-Err-NotDocker c = sym (line_is_none c.args.format c.args.line.now NotDocker (rw c.in-Err-NotDocker.field-0-is at c.in-Err-NotDocker.ensures.fault) (λ e. cc e))

pub returns-in-Err-NotCri : goal.returns-in-Err-NotCri
returns-in-Err-NotCri c = sym (line_is_none c.args.format c.args.line.now _ (rw c.in-Err-NotCri.field-0-is at c.in-Err-NotCri.ensures.fault) (λ e. cc e))
