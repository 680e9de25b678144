use Rattle.syslog_parser.proofs.Messages5424.{one_fault, no_fault}
use Rattle.syslog_parser.proofs.laws.text_has_one_fault_of_5424.Goals as goal

pub returns : goal.returns
returns c = record { one = one_fault; none = no_fault }
