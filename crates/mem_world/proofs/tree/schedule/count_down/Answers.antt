use Rattle.std.proofs.Common.{rules, ◌<◌, ◌≤◌, length, refl}
use Rattle.mem_world.proofs.TreeScheduling.{number_here, counting_more, counting_all}
use Rattle.mem_world.proofs.tree.schedule.count_down.Goals as goal

pub overflow_sub-scheduled : goal.overflow_sub-scheduled
overflow_sub-scheduled c =
    let within : c.loop-scheduled.scheduled-index < length c.loop-scheduled.steps = search rules in
    number_here c.loop-scheduled.invariant c.scheduled-item.result within c.requires.numbers

pub loop-scheduled-preserved : goal.loop-scheduled-preserved
loop-scheduled-preserved c =
    let within : c.loop-scheduled.scheduled-index < length c.loop-scheduled.steps = search rules in
    counting_more c.loop-scheduled.invariant c.scheduled-item.result _ within refl refl

pub returns-clause-waiting : goal.returns-clause-waiting
returns-clause-waiting c =
    let past : length c.loop-scheduled.steps ≤ c.loop-scheduled.scheduled-index = search rules in
    (counting_all c.loop-scheduled.invariant past).1
