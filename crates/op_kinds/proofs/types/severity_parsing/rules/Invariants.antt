use Rattle.std.proofs.Common.{◌≡◌, map, take}
use Rattle.op_kinds.specs.Parsers as parsers
use Rattle.time_severity.specs.Rules as rules
use Rattle.op_kinds.proofs.types.severity_parsing.rules.Given as goal

abbrev pub invariant-loop-rule : goal.invariant-loop-rule
invariant-loop-rule l = map rules.rule_of l.rules.items ≡ map parsers.rule_of (take l.rule-index l.mapping)
