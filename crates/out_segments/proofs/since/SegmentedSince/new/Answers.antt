use Rattle.out_segments.proofs.Keeps.{kept_start}
use Rattle.out_segments.specs.SegmentedMeaning.{parts_of}
use Rattle.out_segments.proofs.since.SegmentedSince.new.Goals as goal

pub invariant_of-result : goal.invariant_of-result
invariant_of-result g c = record {
  sized = c.requires.size;
  kept = kept_start c.requires.moment (g.met.P.Parts.only_now (parts_of c.args.disk)) c.requires.could_leave;
}
