use Rattle.std.proofs.Common.{◌≡◌, ◌+◌, ◌≤◌, length, take}
use Rattle.outside.specs.World.{Told}
use Rattle.agent_commands.proofs.Controlling.{IsFront}
use Rattle.agent_commands.proofs.control.next_request.Given as goal

-- what was taken is the front of the line, and no call has failed
abbrev pub invariant-loop-left : goal.invariant-loop-left
invariant-loop-left g l =
    let source = g.S.Source.meaning in
    record {
      long : length l.line ≡ 64;
      within : l.filled ≤ 64;
      counted : l.fn.left ≡ l.filled + l.left;
      taken : Told (IsFront (take l.filled l.line)) (source.rest l.fn.control) (source.rest l.control);
      cause : source.faults l.control ≡ source.faults l.fn.control;
    }

abbrev pub decreases-loop-left : goal.decreases-loop-left
decreases-loop-left g l = l.left
