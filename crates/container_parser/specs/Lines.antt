-- What a line of each format says, and why it says nothing.
use Rattle.std.specs.Prelude.{◌≡◌, ℕ, false, List, ⊤, Option, None, Some}
use Rattle.container_parser.specs.declared.fault.ContainerFault.{ContainerFault}
use Rattle.container_parser.specs.declared.fault.ContainerFault.TheVariants.{NotDocker, NotCri, Memory}
use Rattle.container_parser.specs.declared.format.Format.{Format}
use Rattle.container_parser.specs.declared.format.Format.TheVariants.{Docker, Crio, Containerd}
use Rattle.container_parser.specs.declared.line.ContainerLine.{ContainerLine}
use Rattle.entry_model.specs.Datum.{Members}
use Rattle.json_text.specs.declared.fault.JsonFault.{JsonFault}
use Rattle.json_text.specs.declared.fault.JsonFault.TheVariants as json
use Rattle.container_parser.specs.CriLines.{Said, IsCriLine, IsCriFault}
use Rattle.container_parser.specs.DockerLines.{IsDockerLine, IsDockerRecord}

abbrev pub said_by : ContainerLine → Said
said_by line = record { stream = line.stream; content = record { partial = line.partial; text = line.text } }

-- Docker's lines are none of parts
abbrev pub IsLine : Format → List ℕ → ContainerLine → Type 0
IsLine Docker text line = IsDockerLine text line.timestamp line.stream line.text × (line.partial ≡ false)
IsLine Crio text line = IsCriLine text line.timestamp (said_by line)
IsLine Containerd text line = IsCriLine text line.timestamp (said_by line)

abbrev pub IsCriFaultOf : List ℕ → ContainerFault → Type 0
IsCriFaultOf text NotDocker = ⊥
IsCriFaultOf text (NotCri at) = IsCriFault text at
IsCriFaultOf text Memory = ⊤

abbrev pub IsDockerFaultOf : List ℕ → ContainerFault → Type 0
IsDockerFaultOf text NotDocker = (line : ContainerLine) → IsLine Docker text line → ⊥
IsDockerFaultOf text (NotCri at) = ⊥
IsDockerFaultOf text Memory = ⊤

-- what is told of a text that is no JSON
abbrev pub told : JsonFault → ContainerFault
told (json.Syntax at) = NotDocker
told (json.TooDeep at) = NotDocker
told json.Memory = Memory

abbrev pub IsLineFault : Format → List ℕ → ContainerFault → Type 0
IsLineFault Docker text fault = IsDockerFaultOf text fault
IsLineFault Crio text fault = IsCriFaultOf text fault
IsLineFault Containerd text fault = IsCriFaultOf text fault

-- what the members of Docker's object say, where they are those of a line
abbrev pub IsRecordOf : Members → Option ContainerLine → Type 0
IsRecordOf members None = (instant : ℕ) (stream log : List ℕ) → IsDockerRecord members instant stream log → ⊥
IsRecordOf members (Some line) = IsDockerRecord members line.timestamp line.stream line.text × (line.partial ≡ false)
