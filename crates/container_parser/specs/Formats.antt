-- By what the formats of container lines are told apart.
use Rattle.std.specs.Prelude.{ℕ, ◌-◌, ◌==◌, List, length, slice_index, if◌then◌else◌}
use Rattle.std.specs.List.{before_first}
use Rattle.container_parser.specs.declared.format.Format.{Format}
use Rattle.container_parser.specs.declared.format.Format.TheVariants.{Docker, Crio, Containerd}
use Rattle.container_parser.specs.Words.{is_space}

abbrev pub by_time : List ℕ → Format
by_time word = (if slice_index word (length word - 1) == 90 then Containerd else Crio)

-- `{` begins a line of Docker, and `Z` ends the first word of one of containerd
unfoldable pub format_of : List ℕ → Format
format_of text = (if slice_index text 0 == 123 then Docker else by_time (before_first is_space text))
