use Rattle.std.proofs.Common.{rules, ◌<◌, length}
use Rattle.mem_world.proofs.TreeScheduling.{room_here, rooms_here, playing_more}
use Rattle.mem_world.proofs.tree.schedule.play_due.Goals as goal

pub play_one-requires-clause-room : goal.play_one-requires-clause-room
play_one-requires-clause-room c =
    let within : c.loop-place.place < length c.loop-place.steps = search rules in
    room_here c.loop-place.invariant c.index-steps-place.result within

pub play_one-requires-clause-rooms : goal.play_one-requires-clause-rooms
play_one-requires-clause-rooms c =
    let within : c.loop-place.place < length c.loop-place.steps = search rules in
    rooms_here c.loop-place.invariant c.index-steps-place.result within

pub loop-place-preserved : goal.loop-place-preserved
loop-place-preserved c =
    let within : c.loop-place.place < length c.loop-place.steps = search rules in
    playing_more c.loop-place.invariant c.index-steps-place.result c.play_one.new.scheduled c.play_one.new.world within c.play_one.ensures.history c.play_one.ensures.waiting c.play_one.ensures.pair c.play_one.ensures.room c.play_one.ensures.rooms
