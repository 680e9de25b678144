-- The one spelling of open groups as bytes.
use Rattle.std.specs.Prelude.{ℕ, List, ◌++◌, length, flat_map}
use Rattle.std.specs.Int.{w32, to_be_bytes}
use Rattle.state_codec.specs.Spelling.{bytes_spelling, entry_spelling}
use Rattle.recombine.specs.Group.{Group}

-- the source, how many entries, the joined text, and the entry that goes on with it
abbrev pub group_spelling : Group → List ℕ
group_spelling group = bytes_spelling group.source ++ (to_be_bytes w32 group.entries ++ (bytes_spelling group.text ++ entry_spelling group.base))

-- their number and each of them, in the order in which they were opened
abbrev pub groups_spelling : List Group → List ℕ
groups_spelling groups = to_be_bytes w32 (length groups) ++ flat_map group_spelling groups
