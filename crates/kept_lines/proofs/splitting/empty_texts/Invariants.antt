use Rattle.std.proofs.Common.{map}
use Rattle.kept_lines.specs.Split.{AreEmpty}
use Rattle.kept_lines.proofs.splitting.empty_texts.Given as goal

abbrev pub invariant-loop : goal.invariant-loop
invariant-loop l = AreEmpty l.counter (map (λ text. text.items) l.texts.items)
