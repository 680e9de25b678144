-- The open files.
use Rattle.std.specs.Prelude.{ℕ, List, map}
use Rattle.mem_world.specs.declared.tree.handles.Open.{Open}

abbrev pub pair_open : Open → ℕ × ℕ
pair_open one = (one.handle, one.file)

abbrev pub handles_of : List Open → List (ℕ × ℕ)
handles_of handles = map pair_open handles
