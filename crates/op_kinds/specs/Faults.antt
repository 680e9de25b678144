-- The faults of what operators are made of, as the one fault of a row.
use Rattle.std.specs.Prelude.{Result, Ok, Err}
use Rattle.field_ops.specs.declared.fault.FieldFault.{FieldFault}
use Rattle.field_ops.specs.declared.fault.FieldFault.TheVariants as field
use Rattle.syslog_parser.specs.declared.fault.SyslogFault.{SyslogFault}
use Rattle.syslog_parser.specs.declared.fault.SyslogFault.TheVariants as syslog
use Rattle.text_parsers.specs.declared.fault.ParseFault.{ParseFault}
use Rattle.text_parsers.specs.declared.fault.ParseFault.TheVariants as parse
use Rattle.time_severity.specs.declared.fault.StampFault.{StampFault}
use Rattle.time_severity.specs.declared.fault.StampFault.TheVariants as stamp
use Rattle.op_kinds.specs.declared.row.RowFault.{RowFault}
use Rattle.op_kinds.specs.declared.row.RowFault.TheVariants.{Faulty, Memory}

abbrev pub of_field_fault : FieldFault → RowFault
of_field_fault field.Missing = Faulty
of_field_fault field.NotAMap = Faulty
of_field_fault field.Memory = Memory

-- a row of a field operator
abbrev pub in_row : Result (Unit {0}) FieldFault → Result (Unit {0}) RowFault
in_row (Ok done) = Ok done
in_row (Err fault) = Err (of_field_fault fault)

abbrev pub of_parse_fault : ParseFault → RowFault
of_parse_fault parse.NotText = Faulty
of_parse_fault parse.NoMatch = Faulty
of_parse_fault (parse.Syntax at) = Faulty
of_parse_fault (parse.FieldCount want got) = Faulty
of_parse_fault (parse.NoDelimiter at) = Faulty
of_parse_fault parse.Memory = Memory

abbrev pub of_syslog_fault : SyslogFault → RowFault
of_syslog_fault syslog.Pri = Faulty
of_syslog_fault syslog.Version = Faulty
of_syslog_fault syslog.Time = Faulty
of_syslog_fault (syslog.Header at) = Faulty
of_syslog_fault (syslog.Structured at) = Faulty
of_syslog_fault syslog.Memory = Memory

abbrev pub of_stamp_fault : StampFault → RowFault
of_stamp_fault stamp.Missing = Faulty
of_stamp_fault stamp.NotTime = Faulty
of_stamp_fault stamp.NotSeverity = Faulty
of_stamp_fault stamp.Memory = Memory

-- stamping an entry
abbrev pub stamped : Result (Unit {0}) StampFault → Result (Unit {0}) RowFault
stamped (Ok done) = Ok done
stamped (Err fault) = Err (of_stamp_fault fault)
