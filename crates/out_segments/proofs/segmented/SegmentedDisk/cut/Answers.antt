use Rattle.std.proofs.Common.{arith, ◌/◌, refl, sym, ◌∙◌}
use Rattle.std.proofs.lemmas.Result.{on_ok_weaker}
use Rattle.out_segments.proofs.Settling.{settled_fewer, settled_changes}
use Rattle.out_segments.proofs.Keeps.{lengths_output, lengths_whole}
use Rattle.out_segments.proofs.Segments.{passes_joined, whole_at, output_at}
use Rattle.out_segments.proofs.segmented.SegmentedDisk.cut.Goals as goal

pub returns-in-None-clause-crash : goal.returns-in-None-clause-crash
returns-in-None-clause-crash g c = passes_joined _ _ refl c.cut_output.ensures.changes.crash (λ x y at. output_at c.args.self.now.size x y c.args.file (sym c.whole_file.ensures ∙ c.in-None.is) at)

pub returns-in-Some-clause-cut : goal.returns-in-Some-clause-cut
returns-in-Some-clause-cut g c = on_ok_weaker c.cut.result (λ cut told. whole_at c.args.self.now.size _ _ c.args.file c.in-Some.file (sym c.whole_file.ensures ∙ c.in-Some.is) (cut told)) c.cut.ensures.cut

pub returns-in-Some-clause-begun : goal.returns-in-Some-clause-begun
returns-in-Some-clause-begun g c told = whole_at c.args.self.now.size _ _ c.args.file c.in-Some.file (sym c.whole_file.ensures ∙ c.in-Some.is) (c.cut.ensures.begun told)

pub returns-in-Some-clause-crash : goal.returns-in-Some-clause-crash
returns-in-Some-clause-crash g c = passes_joined _ _ refl c.cut.ensures.crash (λ x y at. whole_at c.args.self.now.size x y c.args.file c.in-Some.file (sym c.whole_file.ensures ∙ c.in-Some.is) at)

pub invariant_of-self : goal.invariant_of-self
invariant_of-self g c =
    let size = c.args.self.now.size in
    let less = c.settled_before-self.result in
    let known = settled_fewer g.P.Parts.meaning.images c.args.self.now.parts size less c.args.self.now.settled (omega (arith, c.settled_before-self.ensures)) c.args.self.now.known in
    record {
      sized = c.args.self.now.sized;
      known = settled_changes size less (c.args.length / size) (omega (arith, c.settled_before-self.ensures)) (g.met.P.Parts.told c.cut_output.new.parts) known c.cut_output.ensures.changes;
    }

pub returns-in-None-clause-lengths : goal.returns-in-None-clause-lengths
returns-in-None-clause-lengths g c = lengths_output c.args.self.now.size c.cut_output.ensures.changes.crash

pub returns-in-Some-clause-lengths : goal.returns-in-Some-clause-lengths
returns-in-Some-clause-lengths g c = lengths_whole c.args.self.now.size c.args.file c.in-Some.file (sym c.whole_file.ensures ∙ c.in-Some.is) c.cut.ensures.crash

pub returns-in-None-clause-emptied : goal.returns-in-None-clause-emptied
returns-in-None-clause-emptied g c = on_ok_weaker c.cut_output.result (λ emptied whole told. emptied told) c.cut_output.ensures.emptied

pub returns-in-Some-clause-emptied : goal.returns-in-Some-clause-emptied
returns-in-Some-clause-emptied g c = on_ok_weaker c.cut.result (λ _ whole. absurd (let is = sym whole ∙ sym c.whole_file.ensures ∙ c.in-Some.is in cc)) c.cut.ensures.cut
