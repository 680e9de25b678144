-- What is made of an entry whose body is a line that a container's runtime wrote: parts of one line are joined.
use Rattle.std.specs.Prelude.{[], ◌∷◌, Bool, false, not, if◌then◌else◌, Option, None, Some, option_and_then, List}
use Rattle.container_parser.specs.Told.{Read, body_read, told_by}
use Rattle.container_parser.specs.declared.format.Format.{Format}
use Rattle.container_parser.specs.declared.format.Format.TheVariants.{Docker, Crio, Containerd}
use Rattle.container_parser.specs.declared.line.ContainerLine.{ContainerLine}
use Rattle.entry_model.specs.LogRecord.{LogRecord}
use Rattle.field_paths.specs.Place.{Place}
use Rattle.field_paths.specs.declared.path.Root.TheVariants.{Body}
use Rattle.op_kinds.specs.Grouping.{arrival, joined_in}
use Rattle.recombine.specs.Group.{Group}
use Rattle.recombine.specs.Joining.{Joining}
use Rattle.recombine.specs.Recombined.{Made, is_shallow}

-- the body as a whole
abbrev pub whole_body : Place
whole_body = record { root = Body; names = [] }

-- parts are joined up to the last one, as they are, at most 1,000 of them
abbrev pub parts_joined : Joining
parts_joined = record { first_marks = false; field = whole_body; separator = []; most_entries = 1000; newest = false }

-- a part joins the others of its stream; an entry that is nested too deep to be kept isn't taken
abbrev pub part_joined : List Group → Bool → LogRecord → ContainerLine → Option Made
part_joined groups by_path entry line =
    if is_shallow entry then joined_in parts_joined groups (arrival line.stream (not line.partial) (told_by by_path line entry)) else None

-- a line of Docker is none of parts
abbrev pub whole_line : List Group → Bool → LogRecord → ContainerLine → Option Made
whole_line groups by_path entry line = Some (record { groups = groups; sent = told_by by_path line entry ∷ [] })

abbrev pub line_of : Format → List Group → Bool → LogRecord → ContainerLine → Option Made
line_of Docker groups by_path entry line = whole_line groups by_path entry line
line_of Crio groups by_path entry line = part_joined groups by_path entry line
line_of Containerd groups by_path entry line = part_joined groups by_path entry line

abbrev pub line_made : List Group → Bool → LogRecord → Read → Option Made
line_made groups by_path entry read = line_of read.0 groups by_path entry read.1

-- none where the body is no line
abbrev pub contained : Option Format → Bool → List Group → LogRecord → Option Made
contained asked by_path groups entry = option_and_then (line_made groups by_path entry) (body_read asked entry.body)
