use Rattle.std.proofs.Common.{◌-◌, length}
use Rattle.expr_lang.specs.Machine.{state_of}
use Rattle.expr_lang.proofs.Openings.{Reached}
use Rattle.expr_lang.proofs.Reading.{Follows}
use Rattle.expr_lang.proofs.read.parse.Given as goal

abbrev pub invariant-loop-at : goal.invariant-loop-at
invariant-loop-at l = record {
  follows : Follows l.text l.at (state_of l.parser);
  reached : Reached l.text l.at (state_of l.parser);
}

abbrev pub decreases-loop-at : goal.decreases-loop-at
decreases-loop-at l = length l.text - l.at
