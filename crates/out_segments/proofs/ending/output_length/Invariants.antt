use Rattle.std.proofs.Common.{◌-◌, ◌≡◌, ◌≤◌, ◌<◌, ℕ, length, IsTrue}
use Rattle.out_segments.specs.declared.parts.PartFile.TheVariants.{Part}
use Rattle.out_segments.specs.Inner.Keeping.{OnlyRead}
use Rattle.out_segments.proofs.ending.output_length.Given as goal

abbrev pub invariant-loop-full : goal.invariant-loop-full
invariant-loop-full g l =
    let meaning = g.P.Parts.meaning in
    record {
      within : l.full ≤ 4294967296;
      only_read : OnlyRead meaning l.fn.parts l.parts;
      cause : meaning.faults l.parts ≡ meaning.faults l.fn.parts;
      full : IsTrue (meaning.images.tells l.fn.parts) → (number : ℕ) → number < l.full → l.size ≤ length (meaning.images.seen l.fn.parts (Part number));
    }

abbrev pub decreases-loop-full : goal.decreases-loop-full
decreases-loop-full g l = 4294967296 - l.full
