-- The pod that a file's path tells of, by the attributes alone.
use Rattle.std.specs.Prelude.{Bool, if◌then◌else◌, codes, Option, None, option_and_then}
use Rattle.container_parser.specs.Computed.{pod_in}
use Rattle.container_parser.specs.DockerLines.{text_in}
use Rattle.container_parser.specs.declared.pod.Pod.{Pod}
use Rattle.entry_model.specs.Datum.{Members}
use Rattle.field_paths.specs.Members.{member_at}

-- the pod that is told of, where it is asked for
abbrev pub pod_asked_in : Bool → Members → Option Pod
pod_asked_in by_path attributes = if by_path then option_and_then pod_in (option_and_then text_in (member_at (codes "log.file.path") attributes)) else None
