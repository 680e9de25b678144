-- What is kept of the names.
use Rattle.std.specs.Prelude.{ℕ, List, map}
use Rattle.outside.specs.World.{Names}
use Rattle.mem_world.specs.declared.tree.names.Name.{Name}

abbrev pub name_of : Name → List ℕ × ℕ
name_of name = (name.path, name.file)

abbrev pub names_of : List Name → Names
names_of kept = map name_of kept
