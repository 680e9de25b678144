use Rattle.out_segments.proofs.Keeps.{passes_segments, since_more}
use Rattle.out_segments.proofs.since.SegmentedSinceDisk.sync.Goals as goal

pub returns-clause-durable : goal.returns-clause-durable
returns-clause-durable g c = c.sync.ensures.durable

pub returns-clause-seen : goal.returns-clause-seen
returns-clause-seen g c = rw (← c.self.view_is) c.sync.ensures.seen

pub returns-clause-tells : goal.returns-clause-tells
returns-clause-tells g c = rw (← c.self.view_is) c.sync.ensures.tells

pub returns-clause-cause : goal.returns-clause-cause
returns-clause-cause g c = rw (← c.self.view_is) c.sync.ensures.cause

pub returns-clause-bound : goal.returns-clause-bound
returns-clause-bound g c = rw (← c.self.view_is) c.sync.ensures.bound

pub returns-clause-counted : goal.returns-clause-counted
returns-clause-counted g c = rw (← c.self.view_is) c.sync.ensures.counted

pub returns-clause-crash : goal.returns-clause-crash
returns-clause-crash g c = rw (← c.self.view_is) (passes_segments g.P.Parts.meaning.images c.self.inside.disk c.sync.new.self c.sync.ensures.crash)

pub invariant_of-self : goal.invariant_of-self
invariant_of-self g c = since_more g.P.Parts.meaning.images c.self.inside.disk c.sync.new.self g.met.P.Parts.counts_now c.sync.ensures.size c.sync.ensures.lengths c.self.invariant
