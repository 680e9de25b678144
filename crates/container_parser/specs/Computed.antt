-- What the lines of containers say, and to which pod the path of a log belongs, computed. `laws` has that they are what the
-- grammars say.
use Rattle.std.specs.Prelude.{ℕ, pos, ◌==◌, ◌&&◌, nat_lt, if◌then◌else◌, Bool, false, List, [], ◌∷◌, length, take, drop, codes, Option, None, Some, option_map, option_and_then}
use Rattle.std.specs.Char.{is_ascii_digit}
use Rattle.std.specs.List.{position_or_len, before_first, after_first}
use Rattle.std.specs.Str.{bytes_eq}
use Rattle.container_parser.specs.CriLines.{tagged_partial}
use Rattle.container_parser.specs.DockerLines.{text_at}
use Rattle.container_parser.specs.Pods.{are_names, is_container_byte, is_log_end}
use Rattle.container_parser.specs.Words.{is_space, is_made_of}
use Rattle.container_parser.specs.declared.format.Format.{Format}
use Rattle.container_parser.specs.declared.format.Format.TheVariants.{Docker, Crio, Containerd}
use Rattle.container_parser.specs.declared.line.ContainerLine.{ContainerLine}
use Rattle.container_parser.specs.declared.pod.Pod.{Pod}
use Rattle.entry_model.specs.Datum.{Datum, null, boolean, int, text, list, fields, Members}
use Rattle.json_text.specs.Machine.{Outcome, reads, syntax_at, too_deep_at, outcome, start}
use Rattle.time_layout.specs.Iso.{rfc3339_parts}
use Rattle.time_layout.specs.Parts.{layout_read}
use Rattle.time_severity.specs.Times.{instant_read}

-- ---- lines

unfoldable pub instant_in : List ℕ → Option ℕ
instant_in word = instant_read (layout_read (rfc3339_parts 9) (pos 0) word)

abbrev pub line_with : List ℕ → List ℕ → Bool → ℕ → ContainerLine
line_with stream content partial instant = record { timestamp = instant; stream = stream; partial = partial; text = content }

-- a tag, and then the end or a space and the text
abbrev pub tagged : List ℕ → List ℕ → ℕ → Option ContainerLine
tagged stream rest instant = option_map (λ partial. line_with stream (after_first is_space rest) partial instant) (tagged_partial (before_first is_space rest))

-- a stream, a space, and what stands behind it
abbrev pub streamed : List ℕ → ℕ → Option ContainerLine
streamed behind instant =
    if bytes_eq (take 7 behind) (codes "stdout ") then tagged (codes "stdout") (drop 7 behind) instant
    else if bytes_eq (take 7 behind) (codes "stderr ") then tagged (codes "stderr") (drop 7 behind) instant else None

-- a time, a space, and what stands behind it
unfoldable pub cri_line : List ℕ → Option ContainerLine
cri_line line = if nat_lt (position_or_len is_space line) (length line) then option_and_then (streamed (after_first is_space line)) (instant_in (before_first is_space line)) else None

abbrev pub with_log : List ℕ → ℕ → List ℕ → ContainerLine
with_log stream instant log = line_with stream log false instant

abbrev pub with_stream : Members → ℕ → List ℕ → Option ContainerLine
with_stream members instant stream = option_map (with_log stream instant) (text_at (codes "log") members)

abbrev pub with_instant : Members → ℕ → Option ContainerLine
with_instant members instant = option_and_then (with_stream members instant) (text_at (codes "stream") members)

-- the texts of an object, of which one is a time
abbrev pub docker_record : Members → Option ContainerLine
docker_record members = option_and_then (with_instant members) (option_and_then instant_in (text_at (codes "time") members))

abbrev pub record_in : Datum → Option ContainerLine
record_in null = None
record_in (boolean b) = None
record_in (int z) = None
record_in (text bytes) = None
record_in (list items) = None
record_in (fields members) = docker_record members

abbrev pub of_outcome : Outcome → Option ContainerLine
of_outcome (reads value) = record_in value
of_outcome (syntax_at at) = None
of_outcome (too_deep_at at) = None

-- the text is one JSON object, nested at most 64 deep
unfoldable pub docker_line : List ℕ → Option ContainerLine
docker_line line = of_outcome (outcome (start 64) line 0)

abbrev pub line_read : Format → List ℕ → Option ContainerLine
line_read Docker line = docker_line line
line_read Crio line = cri_line line
line_read Containerd line = cri_line line

-- ---- paths

abbrev pub Parts : Type 0
Parts = List ℕ × List ℕ

abbrev pub behind : ℕ → Parts → Parts
behind byte parts = (byte ∷ parts.0, parts.1)

-- what stands before and behind the first of these bytes
abbrev pub at_first : ℕ → List ℕ → Option Parts
at_first mark [] = None
at_first mark (byte ∷ bytes) = if byte == mark then Some ([], bytes) else option_map (behind byte) (at_first mark bytes)

abbrev pub or_here : ℕ → ℕ → List ℕ → Option Parts → Option Parts
or_here mark byte bytes None = if byte == mark then Some ([], bytes) else None
or_here mark byte bytes (Some parts) = Some (behind byte parts)

-- what stands before and behind the last of these bytes
abbrev pub at_last : ℕ → List ℕ → Option Parts
at_last mark [] = None
at_last mark (byte ∷ bytes) = or_here mark byte bytes (at_last mark bytes)

abbrev pub last_of : Option Parts → List ℕ → List ℕ
last_of None whole = whole
last_of (Some parts) whole = parts.1

-- the number of restarts in a file's name
abbrev pub restarts_in : Parts → Option (List ℕ)
restarts_in name = if is_made_of is_ascii_digit name.0 && is_log_end name.1 then Some name.0 else None

abbrev pub named : List ℕ → List ℕ → List ℕ → Parts → Option Pod
named container restarts namespace rest =
    if are_names namespace rest.0 rest.1 && is_made_of is_container_byte container
    then Some (record { namespace = namespace; pod = rest.0; uid = rest.1; container = container; restarts = restarts }) else None

-- the names in the folder's name, with the other ones
abbrev pub in_folder : List ℕ → List ℕ → Parts → Option Pod
in_folder container restarts name = option_and_then (named container restarts name.0) (at_first 95 name.1)

abbrev pub with_restarts : List ℕ → List ℕ → List ℕ → Option Pod
with_restarts folder container restarts = option_and_then (in_folder container restarts) (at_first 95 folder)

abbrev pub with_container : List ℕ → Parts → Option Pod
with_container file parts = option_and_then (with_restarts (last_of (at_last 47 parts.0) parts.0) parts.1) (option_and_then restarts_in (at_first 46 file))

abbrev pub with_file : Parts → Option Pod
with_file parts = option_and_then (with_container parts.1) (at_last 47 parts.0)

-- the names of the last three components of a path
unfoldable pub pod_in : List ℕ → Option Pod
pod_in path = option_and_then with_file (at_last 47 path)
