use Rattle.std.proofs.Common.{◌≡◌, ◌≤◌, ◌<◌, ℕ, length, IsTrue}
use Rattle.out_segments.specs.declared.parts.PartFile.TheVariants.{Part}
use Rattle.out_segments.specs.Inner.Keeping.{OnlyRead}
use Rattle.out_segments.proofs.ending.reaches.Given as goal

abbrev pub invariant-loop-number : goal.invariant-loop-number
invariant-loop-number g l =
    let meaning = g.P.Parts.meaning in
    record {
      only_read : OnlyRead meaning l.fn.parts l.parts;
      cause : meaning.faults l.parts ≡ meaning.faults l.fn.parts;
      full : IsTrue (meaning.images.tells l.fn.parts) → (number : ℕ) → number < l.number → l.size ≤ length (meaning.images.seen l.fn.parts (Part number));
    }
