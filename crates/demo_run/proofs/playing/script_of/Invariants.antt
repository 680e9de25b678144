use Rattle.std.specs.Prelude.{◌+◌, ◌-◌, ◌≤◌}
use Rattle.demo_run.specs.Inner.Playing.{IsPlaying}
use Rattle.demo_run.specs.Script.{played}
use Rattle.demo_run.proofs.playing.script_of.Given as goal

abbrev pub invariant-loop-round : goal.invariant-loop-round
invariant-loop-round l = (l.round ≤ l.rounds) × (l.playing.next_file ≤ l.round + 1) × IsPlaying (played l.round) l.playing

abbrev pub decreases-loop-round : goal.decreases-loop-round
decreases-loop-round l = l.rounds - l.round
