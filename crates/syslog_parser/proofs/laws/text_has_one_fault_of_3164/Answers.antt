use Rattle.syslog_parser.proofs.Messages3164.{one_fault, no_fault}
use Rattle.syslog_parser.proofs.laws.text_has_one_fault_of_3164.Goals as goal

pub returns : goal.returns
returns c = record { one = one_fault; none = no_fault }
