use Rattle.out_segments.proofs.Keeps.{passes_segments, since_more}
use Rattle.out_segments.proofs.since.SegmentedSinceDisk.write_at.Goals as goal

pub write_at-requires-clause-begins : goal.write_at-requires-clause-begins
write_at-requires-clause-begins g c = rw (← c.self.view_is) at c.requires.begins

pub returns-clause-written : goal.returns-clause-written
returns-clause-written g c = rw (← c.self.view_is) c.write_at.ensures.written

pub returns-clause-begun : goal.returns-clause-begun
returns-clause-begun g c = rw (← c.self.view_is) c.write_at.ensures.begun

pub returns-clause-tells : goal.returns-clause-tells
returns-clause-tells g c = rw (← c.self.view_is) c.write_at.ensures.tells

pub returns-clause-cause : goal.returns-clause-cause
returns-clause-cause g c = rw (← c.self.view_is) c.write_at.ensures.cause

pub returns-clause-bound : goal.returns-clause-bound
returns-clause-bound g c = rw (← c.self.view_is) c.write_at.ensures.bound

pub returns-clause-counted : goal.returns-clause-counted
returns-clause-counted g c = rw (← c.self.view_is) c.write_at.ensures.counted

pub returns-clause-crash : goal.returns-clause-crash
returns-clause-crash g c = rw (← c.self.view_is) (passes_segments g.P.Parts.meaning.images c.self.inside.disk c.write_at.new.self c.write_at.ensures.crash)

pub invariant_of-self : goal.invariant_of-self
invariant_of-self g c = since_more g.P.Parts.meaning.images c.self.inside.disk c.write_at.new.self g.met.P.Parts.counts_now c.write_at.ensures.size c.write_at.ensures.lengths c.self.invariant
