-- The faults of readers, as causes for which there is no operator.
use Rattle.expr_lang.specs.declared.read.ExprReadFault.{ExprReadFault}
use Rattle.expr_lang.specs.declared.read.ExprReadFault.TheVariants as expr
use Rattle.field_paths.specs.declared.path.PathFault.{PathFault}
use Rattle.field_paths.specs.declared.path.PathFault.TheVariants as path
use Rattle.op_kinds.specs.declared.cause.OpCause.{OpCause}
use Rattle.text_parsers.specs.declared.regex_fault.RegexFault.{RegexFault}
use Rattle.text_parsers.specs.declared.regex_fault.RegexFault.TheVariants as regex
use Rattle.time_layout.specs.declared.fault.LayoutFault.{LayoutFault}
use Rattle.time_layout.specs.declared.fault.LayoutFault.TheVariants as layout
use Rattle.op_kinds.specs.declared.cause.OpCause.TheVariants.{Path, Expr, Pattern, Layout, NoNames, Memory}

abbrev pub of_path_fault : PathFault → OpCause
of_path_fault (path.NotAPath at) = Path at
of_path_fault path.Memory = Memory

abbrev pub of_read_fault : ExprReadFault → OpCause
of_read_fault (expr.Syntax at) = Expr at
of_read_fault (expr.Pattern at) = Expr at
of_read_fault expr.Memory = Memory

abbrev pub of_regex_fault : RegexFault → OpCause
of_regex_fault regex.Refused = Pattern
of_regex_fault regex.NoNames = NoNames
of_regex_fault regex.Memory = Memory

abbrev pub of_layout_fault : LayoutFault → OpCause
of_layout_fault (layout.Directive at) = Layout at
of_layout_fault layout.Memory = Memory
