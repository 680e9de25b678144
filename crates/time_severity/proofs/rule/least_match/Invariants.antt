use Rattle.std.proofs.Common.{◌≡◌, ◌≤◌, drop, map, option_map, IfSome}
use Rattle.time_severity.proofs.Least.{merged}
use Rattle.time_severity.specs.Rules.{rule_of, least_match}
use Rattle.time_severity.proofs.rule.least_match.Given as goal

abbrev pub invariant-loop-rule : goal.invariant-loop-rule
invariant-loop-rule l = record {
  is : least_match (record { word = option_map (λ text. text.now) l.word; number = l.number }) (map rule_of l.rules)
      ≡ merged l.least (least_match (record { word = option_map (λ text. text.now) l.word; number = l.number }) (map rule_of (drop l.rule-index l.rules)));
  in_range : IfSome l.least (λ number. number ≤ 24);
}
