-- What a stamp makes of an entry: the stamped entry, or why there is none.
use Rattle.std.specs.Prelude.{Option, None, Some, Result, Err}
use Rattle.entry_model.specs.Datum.{Datum}
use Rattle.entry_model.specs.LogRecord.{LogRecord}
use Rattle.time_severity.specs.declared.fault.StampFault.{StampFault}
use Rattle.time_severity.specs.declared.fault.StampFault.TheVariants.{Missing}

abbrev pub Outcome : Type 0
Outcome = Result LogRecord StampFault

-- what becomes of the value that is read, or `Missing` where there is none
abbrev pub where_found : Option Datum → (Datum → Outcome) → Outcome
where_found None then_so = Err Missing
where_found (Some value) then_so = then_so value
