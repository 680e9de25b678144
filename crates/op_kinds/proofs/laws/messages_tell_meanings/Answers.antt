use Rattle.op_kinds.proofs.Syslog.{messages_are_spelled_5424, messages_are_spelled_3164}
use Rattle.op_kinds.proofs.laws.messages_tell_meanings.Goals as goal

pub returns : goal.returns
returns c = record { rfc5424 = messages_are_spelled_5424; rfc3164 = messages_are_spelled_3164 }
