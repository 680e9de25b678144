use Rattle.syslog_parser.proofs.Heads.{priority_one, time_one, date_one}
use Rattle.syslog_parser.proofs.OneWay.{fields_one}
use Rattle.syslog_parser.proofs.laws.parts_are_read_in_one_way.Goals as goal

pub returns : goal.returns
returns c = record { priority = priority_one; time = time_one; date = date_one; fields = λ fields text values others rest more a b. fields_one a b }
