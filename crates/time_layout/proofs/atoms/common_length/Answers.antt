use Rattle.std.proofs.Common.{sym, ◌∙◌}
use Rattle.time_layout.proofs.Counting.{parts_here, over_here}
use Rattle.time_layout.proofs.atoms.common_length.Goals as goal
use Rattle.time_layout.proofs.atoms.common_length.Goals.{then-i-text-via-then-i-text, then-i-text-via-else-i-text+then-not-eq_ignore_ascii_case}

pub returns-then-i-text-clause-is : goal.returns-then-i-text-clause-is
returns-then-i-text-clause-is c =
    elim c.then-i-text.branch [
      | then-i-text-via-then-i-text w ↦
          over_here c.args.name.now c.args.text.now c.loop-i.i c.loop-i.invariant.is w.if-i-text.true
      | then-i-text-via-else-i-text+then-not-eq_ignore_ascii_case w ↦
          parts_here c.args.name.now c.args.text.now c.loop-i.i c.loop-i.invariant.is c.loop-i-test.true w.if-i-text.false
          (sym w.eq_ignore_ascii_case.ensures ∙ w.if-not-eq_ignore_ascii_case.true)
    ]
