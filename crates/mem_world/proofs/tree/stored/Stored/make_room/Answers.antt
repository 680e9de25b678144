use Rattle.std.proofs.Common.{◌+◌, length, sym, ap, ◌∙◌}
use Rattle.std.proofs.lemmas.Result.{err_from_is_err_and}
use Rattle.mem_world.specs.WorldSteps.{event_of, added_by}
use Rattle.mem_world.proofs.TreeRooms.{room_rooms}
use Rattle.mem_world.proofs.tree.stored.Stored.make_room.Goals as goal

pub returns-in_err-make_room-clause-err_rooms : goal.returns-in_err-make_room-clause-err_rooms
returns-in_err-make_room-clause-err_rooms c =
    let p = err_from_is_err_and c.from_residual-in_err-make_room.result c.from_residual-in_err-make_room.ensures.1 in
    rw (p.1, ← c.self.view_is) (λ file. room_rooms c.make_room.new.contents.items file ∙ c.in_err-make_room.ensures.err file ∙ sym (room_rooms c.self.inside.contents.items file))

pub returns-clause-ok_rooms : goal.returns-clause-ok_rooms
returns-clause-ok_rooms c =
    rw (← c.self.view_is) (λ file. room_rooms c.make_room.new.contents.items file ∙ c.in_ok-make_room.ensures.ok file ∙ ap (λ n. n + length (added_by (event_of c.args.step) file)) (sym (room_rooms c.self.inside.contents.items file)))
