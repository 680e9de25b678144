-- What an operator makes of an entry: the changed entry, or why there is none.
use Rattle.std.specs.Prelude.{Option, None, Some, Result, Ok, Err}
use Rattle.entry_model.specs.Datum.{Datum}
use Rattle.entry_model.specs.LogRecord.{LogRecord}
use Rattle.field_ops.specs.declared.fault.FieldFault.{FieldFault}
use Rattle.field_ops.specs.declared.fault.FieldFault.TheVariants.{Missing, NotAMap}

abbrev pub Outcome : Type 0
Outcome = Result LogRecord FieldFault

-- what becomes of the value that is read, or `Missing` where there is none
abbrev pub where_found : Option Datum → (Datum → Outcome) → Outcome
where_found None then_so = Err Missing
where_found (Some value) then_so = then_so value

-- the entry that a value was put into, or `NotAMap` where it was refused
abbrev pub or_refused : Option LogRecord → Outcome
or_refused None = Err NotAMap
or_refused (Some entry) = Ok entry
