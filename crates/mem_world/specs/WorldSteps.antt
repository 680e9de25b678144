-- The steps of other processes, as events of the world's history.
use Rattle.std.specs.Prelude.{ℕ, Bool, false, List, [], ◌∷◌, ◌==◌, if◌then◌else◌}
use Rattle.outside.specs.World.{Event, create, append, rename, remove, look, miss, unlisted, Names, without}
use Rattle.mem_world.specs.declared.world.WorldStep.{WorldStep}
use Rattle.mem_world.specs.declared.world.WorldStep.TheVariants.{Create, Append, Rename, Remove}

abbrev pub event_of : WorldStep → Event
event_of (Create file path) = create file.0 path
event_of (Append file bytes) = append file.0 bytes.items
event_of (Rename file path) = rename file.0 path
event_of (Remove file) = remove file.0

-- the name that a step gives its file
abbrev pub name_given : Event → List ℕ
name_given (create _ path) = path
name_given (append _ _) = []
name_given (rename _ path) = path
name_given (remove _) = []
name_given (look _) = []
name_given (miss _) = []
name_given (unlisted _) = []

-- what the event appends to the file
abbrev pub added_by : Event → ℕ → List ℕ
added_by (create _ _) file = []
added_by (append other more) file = if other == file then more else []
added_by (rename _ _) file = []
added_by (remove _) file = []
added_by (look _) file = []
added_by (miss _) file = []
added_by (unlisted _) file = []

abbrev pub makes : Event → ℕ → Bool
makes (create other _) file = other == file
makes (append _ _) file = false
makes (rename _ _) file = false
makes (remove _) file = false
makes (look _) file = false
makes (miss _) file = false
makes (unlisted _) file = false

abbrev pub names_after : Event → Names → Names
names_after (create file path) before = (path, file) ∷ before
names_after (append _ _) before = before
names_after (rename file path) before = (path, file) ∷ without file before
names_after (remove file) before = without file before
names_after (look _) before = before
names_after (miss _) before = before
names_after (unlisted _) before = before
