-- What is stored of a world: its history, and beside it what the history means for the present.
use Rattle.std.specs.Prelude.{◌≡◌, ℕ, ◌+◌, ◌≤◌, map, ◌==◌, All, vec_len, vec_capacity}
use Rattle.std.specs.List.{list_any}
use Rattle.std.specs.VecDeque.{deque_len, deque_capacity}
use Rattle.outside.specs.World.{History, names, bytes, was_created}
use Rattle.outside.specs.Lawful.{IsLawful}
use Rattle.mem_world.specs.declared.tree.contents.Content.{Content}
use Rattle.mem_world.specs.declared.tree.stored.Stored.TheInside.{Inside}
use Rattle.mem_world.specs.TreeRoom.{StoredWorld}
use Rattle.mem_world.specs.TreeEvents.{event_recorded}
use Rattle.mem_world.specs.TreeNames.{names_of}
use Rattle.mem_world.specs.TreeContents.{bytes_in, HasRoom}

abbrev pub history_of : Inside → History
history_of inside = map event_recorded inside.history.items

abbrev pub room_of : Content → ℕ × ℕ
room_of content = (content.file, content.room)

abbrev pub stored_world : Inside → StoredWorld
stored_world inside = record {
  history = history_of inside;
  room = inside.room;
  rooms = map room_of inside.contents.items;
}

-- The history is lawful, the present is what it makes it, and there is room for so many more steps
pub record IsStored (inside : Inside) : Type 0 where
  pub lawful : IsLawful (history_of inside)
  pub names_kept : names_of inside.names.items ≡ names (history_of inside)
  pub created_kept : (file : ℕ) → list_any (λ n. n == file) inside.created.items ≡ was_created (history_of inside) file
  pub bytes_kept : (file : ℕ) → bytes_in inside.contents.items file ≡ bytes (history_of inside) file
  pub history_room : deque_len inside.history + inside.room ≤ deque_capacity inside.history
  pub names_room : deque_len inside.names + inside.room ≤ deque_capacity inside.names
  pub created_room : vec_len inside.created + inside.room ≤ vec_capacity inside.created
  pub rooms : All HasRoom inside.contents.items
