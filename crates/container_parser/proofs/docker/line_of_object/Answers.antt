use Rattle.std.proofs.Common.{sym, subst}
use Rattle.entry_model.specs.Datum.{members_of}
use Rattle.entry_model.specs.Seen.{seen}
use Rattle.container_parser.specs.declared.fault.ContainerFault.{ContainerFault}
use Rattle.container_parser.specs.Lines.{IsDockerFaultOf}
use Rattle.container_parser.proofs.Records.{other_is_no_line, told_is, record_is_missing}
use Rattle.container_parser.proofs.docker.line_of_object.Goals as goal

pub returns-in-Err-clause-fault : goal.returns-in-Err-clause-fault
returns-in-Err-clause-fault c =
    subst (λ (f : ContainerFault). IsDockerFaultOf c.args.text.now f) (sym c.told.ensures) (told_is c.args.text.now c.in-Err.fault c.in-Err.ensures.fault)

pub returns-in_default-clause-fault : goal.returns-in_default-clause-fault
returns-in_default-clause-fault c = λ line is. other_is_no_line c.args.text.now line (rw c.in_default.is at c.in-Ok.ensures.ok) is

pub returns-in_default-2-clause-fault : goal.returns-in_default-2-clause-fault
returns-in_default-2-clause-fault c = λ line is.
    record_is_missing c.args.text.now (members_of (seen c.in-Some.members.entries)) line (rw c.in-Some.is at c.in-Ok.ensures.ok) (rw c.in_default-2.is at c.in_ok-line.ensures) is
