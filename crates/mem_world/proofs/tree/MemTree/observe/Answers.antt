use Rattle.mem_world.specs.TreeEvents.{event_seen}
use Rattle.mem_world.proofs.TreeHanding.{observed_lawful}
use Rattle.mem_world.proofs.tree.MemTree.observe.Goals as goal

pub invariant_of-self : goal.invariant_of-self
invariant_of-self c =
    let old = c.args.self.now in
    record {
      lawful = observed_lawful c.observe.result (event_seen c.args.seen) old.planned c.observe.new.self c.requires.may_come old.lawful c.observe.ensures.ok c.observe.ensures.err;
      followed = c.observe.ensures.followed;
      counted = old.counted;
      below = old.below;
    }
