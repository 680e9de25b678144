use Rattle.std.proofs.Common.{rules, ◌≡◌, length, map, take, ◌==◌, sym, ap, subst, ◌∙◌}
use Rattle.std.specs.Prelude.{if◌then◌else◌}
use Rattle.std.specs.VecDeque.{deque_len, deque_with_items}
use Rattle.outside.specs.Lawful.{IsLawful}
use Rattle.outside.specs.World.{History, names, was_created, bytes}
use Rattle.mem_world.specs.TreeEvents.{event_recorded}
use Rattle.mem_world.specs.TreeSpoiled.{cut_to}
use Rattle.mem_world.proofs.TreeCutting.{cut_lawful, cut_names, cut_created, cut_bytes}
use Rattle.mem_world.proofs.TreeRooms.{room_rooms}
use Rattle.mem_world.proofs.tree.stored.Stored.cut.Goals as goal

pub invariant_of-self : goal.invariant_of-self
invariant_of-self c =
    let inside = c.self.inside in
    let file = c.args.file in
    let size = c.args.size in
    let before = map event_recorded inside.history.items in
    let long : length c.cut.new.history ≡ deque_len inside.history = search rules in
    let written : (deque_with_items inside.history c.cut.new.history).items ≡ c.cut.new.history = c.make_contiguous.ensures.writes_back c.cut.new.history long in
    let after : map event_recorded (deque_with_items inside.history c.cut.new.history).items ≡ cut_to file size before = ap (map event_recorded) written ∙ c.cut.ensures ∙ ap (λ rs. cut_to file size (map event_recorded rs)) c.make_contiguous.ensures.value in
    record {
      lawful = (let P : History → Type 0 = λ h. IsLawful h in subst P (sym after) (cut_lawful file size before c.self.invariant.lawful));
      names_kept = c.self.invariant.names_kept ∙ sym (cut_names file size before) ∙ ap names (sym after);
      created_kept = λ other. c.self.invariant.created_kept other ∙ sym (cut_created file size before other) ∙ ap (λ h. was_created h other) (sym after);
      bytes_kept = λ other. c.cut-2.ensures.bytes other ∙ ap (λ bs. if file == other then take size bs else bs) (c.self.invariant.bytes_kept other) ∙ sym (cut_bytes file size before other) ∙ ap (λ h. bytes h other) (sym after);
      history_room = c.self.invariant.history_room;
      names_room = c.self.invariant.names_room;
      created_room = c.self.invariant.created_room;
      rooms = c.cut-2.ensures.kept;
    }

pub returns-clause-rooms : goal.returns-clause-rooms
returns-clause-rooms c =
    rw (← c.self.view_is) (λ other. room_rooms c.cut-2.new.contents.items other ∙ c.cut-2.ensures.rooms other ∙ sym (room_rooms c.self.inside.contents.items other))
