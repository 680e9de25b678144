-- What an operator in memory is.
use Rattle.std.specs.Prelude.{List, [], ◌∷◌, map, Option, None, Some, option_map, Result, Ok, Err, alloc_error}
use Rattle.std.specs.declared.alloc.AllocError.{AllocError}
use Rattle.entry_model.specs.Datum.{datum}
use Rattle.entry_model.specs.LogRecord.{LogRecord}
use Rattle.expr_lang.specs.TreeOf.{tree_of}
use Rattle.op_kinds.specs.Operator as op
use Rattle.op_kinds.specs.Operator.{Act, Operator}
use Rattle.op_kinds.specs.ParserView.{parsing_of, stamp_of}
use Rattle.op_kinds.specs.declared.action.Action.{Action}
use Rattle.op_kinds.specs.declared.action.Action.TheVariants.{Noop, Container, Move, Copy, Add, Remove, Flatten, Retain, Parse, Time, Severity, Syslog, Filter, Recombine}
use Rattle.op_kinds.specs.declared.action.Fate.{Fate}
use Rattle.op_kinds.specs.declared.action.Fate.TheVariants.{Sent, Dropped, Faulty}
use Rattle.op_kinds.specs.declared.row.RowFault.{RowFault}
use Rattle.op_kinds.specs.declared.row.RowFault.TheVariants as row
use Rattle.op_kinds.specs.declared.any_op.Form.{Form}
use Rattle.op_kinds.specs.declared.any_op.Form.TheVariants.{Conditional, Router}

abbrev pub act_of : Action → Act
act_of Noop = op.noop
act_of (Container made) = op.container made.op.format made.op.by_path
act_of (Move made) = op.move made.from made.to
act_of (Copy made) = op.copy made.from made.to
act_of (Add made) = op.add made.field (datum made.value)
act_of (Remove made) = op.remove made.field
act_of (Flatten made) = op.flatten made.parent made.name
act_of (Retain made) = op.retain made.fields.items
act_of (Parse made) = op.parse (parsing_of made)
act_of (Time made) = op.stamp (stamp_of made)
act_of (Severity made) = op.grade made
act_of (Syslog made) = op.syslog made.protocol made.from made.to
act_of (Filter expr) = op.filter (tree_of expr)
act_of (Recombine made) = op.recombine made.recombine (tree_of made.mark) made.source

abbrev pub form_of : Form → Operator
form_of (Conditional made) = op.conditional (option_map tree_of made.condition) (act_of made.action) made.drops_faulty
form_of (Router made) = op.router (map tree_of made.routes.items) made.has_default

-- the entries that an entry, which may have been changed, gives by its fate
abbrev pub entries_by : Fate → LogRecord → Option (List LogRecord)
entries_by Sent entry = Some (entry ∷ [])
entries_by Dropped entry = Some []
entries_by Faulty entry = None

-- the fate of an entry on which a row was done
abbrev pub fate_from : Result (Unit {0}) RowFault → Result Fate AllocError
fate_from (Ok _) = Ok Sent
fate_from (Err row.Faulty) = Ok Faulty
fate_from (Err row.Memory) = Err alloc_error
