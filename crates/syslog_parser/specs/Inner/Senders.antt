-- What stands behind the time of RFC 3164, as the reader hands it on.
use Rattle.std.specs.Prelude.{option_map}
use Rattle.syslog_parser.specs.declared.senders.Sender.{Sender}
use Rattle.syslog_parser.specs.Rfc3164.{Tail}

abbrev pub tail_of : Sender → Tail
tail_of sender = record {
  host = sender.host.now;
  tag = sender.tag.now;
  process = option_map (λ own. own.now) sender.process;
  message = sender.message.now;
}
