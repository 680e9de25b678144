use Rattle.syslog_parser.proofs.Messages5424.{one_message}
use Rattle.syslog_parser.proofs.laws.text_is_one_message_of_5424.Goals as goal

pub returns : goal.returns
returns c = one_message
