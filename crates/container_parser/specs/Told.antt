-- What an entry becomes whose body is a line that a container's runtime wrote.
use Rattle.std.specs.Prelude.{ℕ, List, codes, Bool, if◌then◌else◌, Option, None, Some, option_map, option_and_then}
use Rattle.container_parser.specs.DockerLines.{text_in}
use Rattle.container_parser.specs.Formats.{format_of}
use Rattle.container_parser.specs.declared.format.Format.{Format}
use Rattle.container_parser.specs.declared.line.ContainerLine.{ContainerLine}
use Rattle.container_parser.specs.declared.pod.Pod.{Pod}
use Rattle.entry_model.specs.Datum.{Datum, text, Members}
use Rattle.entry_model.specs.LogRecord.{LogRecord}
use Rattle.field_paths.specs.Members.{member_at, with_member}
use Rattle.container_parser.specs.Computed.{line_read, pod_in}

-- ---- lines and pods

-- the format that is asked for, or the one that a line seems to have
abbrev pub format_for : Option Format → List ℕ → Format
format_for None line = format_of line
format_for (Some format) line = format

-- a line, and the format that it was read in
abbrev pub Read : Type 0
Read = Format × ContainerLine

abbrev pub read_as : Format → List ℕ → Option Read
read_as format line = option_map (λ read. (format, read)) (line_read format line)

abbrev pub read_in : Option Format → List ℕ → Option Read
read_in asked line = read_as (format_for asked line) line

-- what a body says, which has to be a text
abbrev pub body_read : Option Format → Datum → Option Read
body_read asked body = option_and_then (read_in asked) (text_in body)

-- the pod that the path of an entry's file tells of
abbrev pub pod_told : LogRecord → Option Pod
pod_told entry = option_and_then pod_in (option_and_then text_in (member_at (codes "log.file.path") entry.attributes))

abbrev pub pod_asked : Bool → LogRecord → Option Pod
pod_asked by_path entry = if by_path then pod_told entry else None

-- ---- entries

-- the semantic conventions of OpenTelemetry name them so
abbrev pub with_pod : Option Pod → Members → Members
with_pod None resource = resource
with_pod (Some pod) resource =
    with_member (codes "k8s.pod.uid") (text pod.uid) (
    with_member (codes "k8s.pod.name") (text pod.pod) (
    with_member (codes "k8s.namespace.name") (text pod.namespace) (
    with_member (codes "k8s.container.restart_count") (text pod.restarts) (
    with_member (codes "k8s.container.name") (text pod.container) resource))))

-- the entry with what its line says, and with the pod of its file
unfoldable pub told_by : Bool → ContainerLine → LogRecord → LogRecord
told_by by_path line entry = record entry {
  body = text line.text;
  attributes = with_member (codes "log.iostream") (text line.stream) entry.attributes;
  resource = with_pod (pod_asked by_path entry) entry.resource;
  timestamp = Some line.timestamp;
}
