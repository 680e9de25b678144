use Rattle.std.proofs.Common.{map}
use Rattle.auditor.specs.Inner.Compared.{made_in}
use Rattle.auditor.proofs.Agreeing.{AgreeTo}
use Rattle.auditor.proofs.compared.agreed_lines.Given as goal

abbrev pub invariant-loop-place : goal.invariant-loop-place
invariant-loop-place l = AgreeTo l.id (made_in l.items) (map (λ line. line.now) l.own) l.place l.last
