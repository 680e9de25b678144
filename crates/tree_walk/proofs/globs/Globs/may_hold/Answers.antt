use Rattle.tree_walk.proofs.Lists.{none_more, none_left}
use Rattle.tree_walk.proofs.globs.Globs.may_hold.Goals as goal

pub loop-glob-preserved : goal.loop-glob-preserved
loop-glob-preserved c = none_more _ _ _ _ c.loop-glob-test.true c.glob-item.is c.loop-glob.invariant (λ h. absurd (cc (c.if-lists.ensures.1 h)))

pub returns : goal.returns
returns c = (λ h. absurd (cc h), λ h. absurd (none_left _ _ _ c.loop-glob-test.false c.loop-glob.invariant h))
