-- A file that is cut, as no process of the world may.
use Rattle.std.specs.Prelude.{ℕ, ◌-◌, [], ◌∷◌, take, length, false, ◌==◌, if◌then◌else◌}
use Rattle.outside.specs.World.{Event, create, append, rename, remove, look, miss, unlisted, History, bytes}
use Rattle.mem_world.specs.TreeTold.{TreeState, planned_anew}

-- of what the event appends to the file only the first bytes, at most so many
abbrev pub shortened : ℕ → ℕ → Event → Event
shortened file most (create other path) = create other path
shortened file most (append other more) = append other (if other == file then take most more else more)
shortened file most (rename other path) = rename other path
shortened file most (remove other) = remove other
shortened file most (look other) = look other
shortened file most (miss path) = miss path
shortened file most (unlisted folder) = unlisted folder

-- What was appended to the file fills it up to this size, and what came later adds nothing.
abbrev pub cut_to : ℕ → ℕ → History → History
cut_to file size [] = []
cut_to file size (event ∷ before) = shortened file (size - length (bytes before file)) event ∷ cut_to file size before

-- The file is cut to this size, the plan is set anew, and neither the world nor the plan is told from now on.
abbrev pub spoiled : ℕ → ℕ → TreeState → TreeState
spoiled file size tree = record (planned_anew tree (cut_to file size tree.world.history) tree.waiting) { told = false }
