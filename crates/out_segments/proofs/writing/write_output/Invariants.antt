use Rattle.std.proofs.Common.{◌-◌, ◌≡◌, ◌≤◌, ◌/◌, length, take, IsTrue}
use Rattle.outside.specs.Image.{Torn, Holds}
use Rattle.out_segments.specs.Inner.AtOutput.{AtOutput}
use Rattle.out_segments.specs.Inner.Keeping.{Changes}
use Rattle.out_segments.proofs.writing.write_output.Given as goal

abbrev pub invariant-loop-written : goal.invariant-loop-written
invariant-loop-written g l =
    let meaning = g.P.Parts.meaning in
    record {
      within : l.written ≤ length l.bytes;
      cause : meaning.faults l.parts ≡ meaning.faults l.fn.parts;
      front : IsTrue (meaning.images.tells l.fn.parts) → AtOutput l.size (l.offset / l.size) (Holds l.offset (take l.written l.bytes)) (meaning.images.seen l.fn.parts) (meaning.images.seen l.parts);
      changes : Changes meaning (AtOutput l.size (l.offset / l.size) (Torn l.offset (length l.bytes))) l.fn.parts l.parts;
    }

abbrev pub decreases-loop-written : goal.decreases-loop-written
decreases-loop-written g l = length l.bytes - l.written
