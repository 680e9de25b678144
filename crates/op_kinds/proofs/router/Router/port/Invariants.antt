use Rattle.std.proofs.Common.{◌≡◌, map, drop}
use Rattle.entry_model.specs.LogRecord.{log_record}
use Rattle.expr_lang.specs.TreeOf.{tree_of}
use Rattle.op_kinds.specs.Operator.{route_port}
use Rattle.op_kinds.proofs.router.Router.port.Given as goal

-- the routes that are left decide
abbrev pub invariant-loop-index : goal.invariant-loop-index
invariant-loop-index l =
    route_port l.index (map tree_of (drop l.index l.self.routes.items)) l.self.has_default (log_record l.entry) ≡ route_port 0 (map tree_of l.self.routes.items) l.self.has_default (log_record l.entry)
