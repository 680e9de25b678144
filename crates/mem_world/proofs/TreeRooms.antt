-- The room that a stored world tells.
use Rattle.std.proofs.Common.{◌≡◌, ℕ, List, [], ◌∷◌, map, true, false, cond, ◌==◌, refl}
use Rattle.mem_world.specs.declared.tree.contents.Content.{Content}
use Rattle.mem_world.specs.TreeContents.{room_at}
use Rattle.mem_world.specs.TreeRoom.{room_in}
use Rattle.mem_world.specs.TreeStored.{room_of}

pub room_rooms : (cs : List Content) (file : ℕ) → room_in (map room_of cs) file ≡ room_at cs file
room_rooms [] file = refl
room_rooms (c ∷ cs) file = elim (c.file == file) as (λ t. cond t c.room (room_in (map room_of cs) file) ≡ cond t c.room (room_at cs file)) [ true ↦ refl | false ↦ room_rooms cs file ]
