use Rattle.std.proofs.Common.{length, map}
use Rattle.kept_lines.proofs.Texts.{TextsSoFar}
use Rattle.kept_lines.proofs.splitting.split.Given as goal

abbrev pub invariant-cutting : goal.invariant-cutting
invariant-cutting l = TextsSoFar l.output l.count (map (λ text. text.items) l.texts.items) l.rest

abbrev pub decreases-cutting : goal.decreases-cutting
decreases-cutting l = length l.rest
