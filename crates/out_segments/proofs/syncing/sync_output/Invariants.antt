use Rattle.std.proofs.Common.{◌-◌, ◌≡◌}
use Rattle.out_segments.specs.Inner.Keeping.{OnlyRead}
use Rattle.out_segments.specs.Inner.Settled.{AreSettled}
use Rattle.out_segments.proofs.syncing.sync_output.Given as goal

abbrev pub invariant-loop-place : goal.invariant-loop-place
invariant-loop-place g l =
    let meaning = g.P.Parts.meaning in
    record {
      only_read : OnlyRead meaning l.fn.parts l.parts;
      cause : meaning.faults l.parts ≡ meaning.faults l.fn.parts;
      settled : AreSettled meaning.images l.size l.place l.parts;
    }

abbrev pub decreases-loop-place : goal.decreases-loop-place
decreases-loop-place g l = 4294967295 - l.place
