use Rattle.std.proofs.Common.{◌-◌, ◌≡◌, ◌≤◌, IsTrue}
use Rattle.out_segments.specs.Inner.AtOutput.{AtOutput, IsKept, IsShort, EachLeft, EmptiedTo}
use Rattle.out_segments.specs.Inner.Keeping.{Changes}
use Rattle.out_segments.proofs.cutting.cut_later.Given as goal

abbrev pub invariant-loop-number : goal.invariant-loop-number
invariant-loop-number g l =
    let meaning = g.P.Parts.meaning in
    record {
      behind : l.place ≤ l.number;
      changes : Changes meaning (AtOutput l.size l.place IsKept) l.fn.parts l.parts;
      emptied : IsTrue (meaning.images.tells l.fn.parts) → EmptiedTo l.place l.number (meaning.images.seen l.fn.parts) (meaning.images.seen l.parts);
      short : EachLeft meaning.images l.parts (IsShort l.size l.place);
      cause : meaning.faults l.parts ≡ meaning.faults l.fn.parts;
    }

abbrev pub decreases-loop-number : goal.decreases-loop-number
decreases-loop-number g l = 4294967295 - l.number
