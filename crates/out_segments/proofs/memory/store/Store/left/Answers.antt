use Rattle.std.proofs.Common.{arith, rules}
use Rattle.std.proofs.lemmas.Grind.{common_steps}
use Rattle.out_segments.proofs.CrashTearing.{tears_skip, tears_step}
use Rattle.out_segments.proofs.memory.store.Store.left.Goals as goal
use Rattle.out_segments.proofs.memory.store.Store.left.Goals.{then-is_of+in_ok-step, else-is_of}

pub loop-entry-preserved : goal.loop-entry-preserved
loop-entry-preserved c =
    let file = c.args.file in
    let log = c.args.self.now.log.items in
    let i = c.loop-entry.entry-index in
    let entry = c.entry-item.result in
    let shown = c.loop-entry.shown.items in
    let left = c.loop-entry.left.items in
    elim c.if-is_of.branch [
      | then-is_of+in_ok-step w ↦ rw (w.shown-is, w.left-is) (tears_step c.args.tear file log i entry shown left w.step.new.shown.items w.step.new.left.items (search rules) (grind (arith, common_steps)) (search rules) c.loop-entry.invariant w.in_ok-step.ensures.shown w.in_ok-step.ensures.left w.in_ok-step.ensures.torn)
      | else-is_of w ↦ rw (w.shown-is, w.left-is) (tears_skip c.args.tear file log i entry shown left (search rules) (grind (arith, common_steps)) (search rules) c.loop-entry.invariant)
    ]
