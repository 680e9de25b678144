use Rattle.std.proofs.Common.{length, map}
use Rattle.kept_lines.proofs.Cutting.{SoFar}
use Rattle.kept_lines.proofs.lines.lines_of.Given as goal

abbrev pub invariant-cutting : goal.invariant-cutting
invariant-cutting l = SoFar l.id l.output (map (λ line. line.now) l.own.items) l.rest

abbrev pub decreases-cutting : goal.decreases-cutting
decreases-cutting l = length l.rest
