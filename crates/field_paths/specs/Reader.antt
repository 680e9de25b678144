-- The states in which the reader goes over a text byte by byte. What a text means is `IsPathText`.
use Rattle.std.specs.Prelude.{ℕ, ◌+◌, List, [], ◌∷◌, ◌++◌, length, slice_index, Option, None, Some, option_and_then, if◌then◌else◌, ◌==◌, ◌&&◌, nat_lt}
use Rattle.field_paths.specs.declared.path.Root.{Root}
use Rattle.field_paths.specs.declared.path.Root.TheVariants.{Body, Attributes, Resource}
use Rattle.field_paths.specs.declared.read.Phase.{Phase}
use Rattle.field_paths.specs.declared.read.Phase.TheVariants as phase
use Rattle.field_paths.specs.declared.read.Reader.{Reader}
use Rattle.field_paths.specs.PathText.{root_name, is_name_byte, is_quote, is_escaped}

pub record State : Type 0 where
  pub phase : Phase
  pub root : Root
  -- what is read of the last name
  pub name : List ℕ
  -- the names before it
  pub names : List (List ℕ)

abbrev pub state_of : Reader → State
state_of reader = record { phase = reader.phase; root = reader.root; name = reader.name.items; names = reader.names.items }

abbrev pub start : State
start = record { phase = phase.Start; root = Body; name = []; names = [] }

unfoldable pub begun : State → ℕ → Option State
begun s byte =
    (if byte == 98 then Some (record s { phase = phase.Root 1; root = Body }) else
    (if byte == 97 then Some (record s { phase = phase.Root 1; root = Attributes }) else
    (if byte == 114 then Some (record s { phase = phase.Root 1; root = Resource }) else None)))

unfoldable pub gone_on : State → ℕ → ℕ → Option State
gone_on s matched byte =
    (if nat_lt matched (length (root_name s.root)) && (byte == slice_index (root_name s.root) matched)
    then Some (record s { phase = (if matched + 1 == length (root_name s.root) then phase.Between else phase.Root (matched + 1)) })
    else None)

unfoldable pub opened : State → ℕ → Option State
opened s byte =
    (if nat_lt (length s.names) 32
    then (if byte == 46 then Some (record s { phase = phase.Dot; name = [] }) else
    (if byte == 91 then Some (record s { phase = phase.Bracket; name = [] }) else None))
    else None)

abbrev pub closed : State → State
closed s = record s { name = []; names = s.names ++ s.name ∷ [] }

abbrev pub named : State → Phase → ℕ → State
named s next byte = record s { phase = next; name = s.name ++ byte ∷ [] }

abbrev pub named_on : State → ℕ → Option State
named_on s byte = (if is_name_byte byte then Some (named s phase.Name byte) else opened (closed s) byte)

abbrev pub entered : State → ℕ → Option State
entered s byte = (if is_quote byte then Some (record s { phase = phase.Quoted byte }) else None)

abbrev pub left : State → ℕ → Option State
left s byte = (if byte == 93 then Some (record (closed s) { phase = phase.Between }) else None)

unfoldable pub quoted : State → ℕ → ℕ → State
quoted s quote byte =
    (if byte == quote then record s { phase = phase.Closing } else
    (if byte == 92 then record s { phase = phase.Escape quote } else named s (phase.Quoted quote) byte))

abbrev pub step_from : Phase → State → ℕ → Option State
step_from phase.Start s byte = begun s byte
step_from (phase.Root matched) s byte = gone_on s matched byte
step_from phase.Between s byte = opened s byte
step_from phase.Dot s byte = (if is_name_byte byte then Some (named s phase.Name byte) else None)
step_from phase.Name s byte = named_on s byte
step_from phase.Bracket s byte = entered s byte
step_from (phase.Quoted quote) s byte = Some (quoted s quote byte)
step_from (phase.Escape quote) s byte = (if is_escaped byte then Some (named s (phase.Quoted quote) byte) else None)
step_from phase.Closing s byte = left s byte

abbrev pub step : State → ℕ → Option State
step s byte = step_from s.phase s byte

abbrev pub steps : State → List ℕ → Option State
steps s [] = Some s
steps s (byte ∷ bytes) = option_and_then (λ next. steps next bytes) (step s byte)

-- the names, where the text may end here
abbrev pub names_from : Phase → State → Option (List (List ℕ))
names_from phase.Start s = None
names_from (phase.Root matched) s = None
names_from phase.Between s = Some s.names
names_from phase.Dot s = None
names_from phase.Name s = Some (s.names ++ s.name ∷ [])
names_from phase.Bracket s = None
names_from (phase.Quoted quote) s = None
names_from (phase.Escape quote) s = None
names_from phase.Closing s = None

abbrev pub names_read : State → Option (List (List ℕ))
names_read s = names_from s.phase s
