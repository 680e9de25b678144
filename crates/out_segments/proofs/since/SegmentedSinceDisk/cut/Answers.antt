use Rattle.out_segments.proofs.Keeps.{passes_segments, since_more}
use Rattle.out_segments.proofs.since.SegmentedSinceDisk.cut.Goals as goal

pub cut-requires : goal.cut-requires
cut-requires g c = rw (← c.self.view_is) at c.requires

pub returns-clause-cut : goal.returns-clause-cut
returns-clause-cut g c = rw (← c.self.view_is) c.cut.ensures.cut

pub returns-clause-begun : goal.returns-clause-begun
returns-clause-begun g c = rw (← c.self.view_is) c.cut.ensures.begun

pub returns-clause-tells : goal.returns-clause-tells
returns-clause-tells g c = rw (← c.self.view_is) c.cut.ensures.tells

pub returns-clause-cause : goal.returns-clause-cause
returns-clause-cause g c = rw (← c.self.view_is) c.cut.ensures.cause

pub returns-clause-bound : goal.returns-clause-bound
returns-clause-bound g c = rw (← c.self.view_is) c.cut.ensures.bound

pub returns-clause-counted : goal.returns-clause-counted
returns-clause-counted g c = rw (← c.self.view_is) c.cut.ensures.counted

pub returns-clause-crash : goal.returns-clause-crash
returns-clause-crash g c = rw (← c.self.view_is) (passes_segments g.P.Parts.meaning.images c.self.inside.disk c.cut.new.self c.cut.ensures.crash)

pub invariant_of-self : goal.invariant_of-self
invariant_of-self g c = since_more g.P.Parts.meaning.images c.self.inside.disk c.cut.new.self g.met.P.Parts.counts_now c.cut.ensures.size c.cut.ensures.lengths c.self.invariant
