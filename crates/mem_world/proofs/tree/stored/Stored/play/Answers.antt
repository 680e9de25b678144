use Rattle.std.proofs.Common.{◌≡◌, ◌∷◌, ◌++◌, ◌||◌, map, sym, ap, subst, ◌∙◌, arith}
use Rattle.std.specs.Prelude.{IsTrue}
use Rattle.outside.specs.Lawful.{is_lawful, IsLawful}
use Rattle.outside.specs.World.{History, names, was_created, bytes}
use Rattle.mem_world.specs.TreeEvents.{event_recorded}
use Rattle.mem_world.specs.WorldSteps.{event_of, added_by, makes, names_after}
use Rattle.mem_world.proofs.TreeRooms.{room_rooms}
use Rattle.mem_world.proofs.TreeStoring.{lawful_then, names_then, created_then, bytes_then}
use Rattle.mem_world.proofs.tree.stored.Stored.play.Goals as goal

pub grow-requires-clause-room : goal.grow-requires-clause-room
grow-requires-clause-room c = λ other.
    let room = c.requires.rooms other in
    let kept = rw (← c.self.view_is) at room in
    rw room_rooms at kept

pub invariant_of-self : goal.invariant_of-self
invariant_of-self c =
    let inside = c.self.inside in
    let event = event_of c.args.ready.step in
    let before = map event_recorded inside.history.items in
    let lawful : IsTrue (is_lawful before event) = rw (← c.self.view_is) at c.requires.lawful in
    let after : map event_recorded c.push_front_reserved.new.self.items ≡ event ∷ before = ap (map event_recorded) c.push_front_reserved.ensures.items in
    record {
      lawful = (let P : History → Type 0 = λ h. IsLawful h in subst P (sym after) (lawful_then event before lawful c.self.invariant.lawful));
      names_kept = c.change.ensures.names ∙ ap (names_after event) c.self.invariant.names_kept ∙ sym (names_then event before) ∙ ap names (sym after);
      created_kept = λ file. c.note_created.ensures.made file ∙ ap (λ b. makes event file || b) (c.self.invariant.created_kept file) ∙ sym (created_then event before file) ∙ ap (λ h. was_created h file) (sym after);
      bytes_kept = λ file. c.grow.ensures.bytes file ∙ ap (λ b. b ++ added_by event file) (c.self.invariant.bytes_kept file) ∙ sym (bytes_then event before file) ∙ ap (λ h. bytes h file) (sym after);
      history_room = omega (arith, c.push_front_reserved.ensures.len, c.push_front_reserved.ensures.capacity, c.self.invariant.history_room, c.requires.room, c.self.view_is);
      names_room = omega (arith, c.change.ensures.len, c.change.ensures.capacity, c.self.invariant.names_room);
      created_room = omega (arith, c.note_created.ensures.len, c.note_created.ensures.capacity, c.self.invariant.created_room);
      rooms = c.grow.ensures.kept;
    }

pub returns-clause-rooms : goal.returns-clause-rooms
returns-clause-rooms c = λ file.
    rw (← c.self.view_is, room_rooms) (c.grow.ensures.rooms file ∙ sym (room_rooms c.self.inside.contents.items file))
