-- A line says one thing in a format, or has one fault.
use Rattle.std.proofs.Common.{◌≡◌, ◌≢◌, ℕ, List, ap, ap₂, sym, refl, ◌∙◌, Bool}
use Rattle.container_parser.specs.declared.fault.ContainerFault.{ContainerFault}
use Rattle.container_parser.specs.declared.fault.ContainerFault.TheVariants.{NotDocker, NotCri, Memory}
use Rattle.container_parser.specs.declared.format.Format.{Format}
use Rattle.container_parser.specs.declared.format.Format.TheVariants.{Docker, Crio, Containerd}
use Rattle.container_parser.specs.declared.line.ContainerLine.{ContainerLine}
use Rattle.container_parser.specs.CriLines.{Said, IsCriLine}
use Rattle.container_parser.specs.Lines.{said_by, IsLine, IsCriFaultOf, IsDockerFaultOf, IsLineFault}
use Rattle.container_parser.proofs.CriLaws.{one_cri_line, one_cri_fault, line_or_fault}
use Rattle.container_parser.proofs.Records.{one_docker_line}

abbrev made : ℕ → List ℕ → Bool → List ℕ → ContainerLine
made instant stream partial text = record { timestamp = instant; stream = stream; partial = partial; text = text }

same_parts : (line other : ContainerLine) → line.timestamp ≡ other.timestamp → line.stream ≡ other.stream → line.partial ≡ other.partial → line.text ≡ other.text → line ≡ other
same_parts line other t s p w =
    ap₂ (λ (a : ℕ) (b : List ℕ). made a b line.partial line.text) t s
    ∙ ap₂ (λ (a : Bool) (b : List ℕ). made other.timestamp other.stream a b) p w

same_cri : (text : List ℕ) (line other : ContainerLine) → IsCriLine text line.timestamp (said_by line) → IsCriLine text other.timestamp (said_by other) → line ≡ other
same_cri text line other one two =
    let same = one_cri_line text line.timestamp other.timestamp (said_by line) (said_by other) one two in
    let stream : line.stream ≡ other.stream = ap (λ (s : Said). s.stream) same.1 in
    let partial : line.partial ≡ other.partial = ap (λ (s : Said). s.content.partial) same.1 in
    let words : line.text ≡ other.text = ap (λ (s : Said). s.content.text) same.1 in
    same_parts line other same.0 stream partial words

same_docker : (text : List ℕ) (line other : ContainerLine) → IsLine Docker text line → IsLine Docker text other → line ≡ other
same_docker text line other one two =
    let same = one_docker_line text line.timestamp other.timestamp line.stream other.stream line.text other.text one.0 two.0 in
    same_parts line other same.instant same.stream_is (one.1 ∙ sym two.1) same.log_is

pub one_line : (format : Format) (text : List ℕ) (line other : ContainerLine) → IsLine format text line → IsLine format text other → line ≡ other
one_line Docker text line other one two = same_docker text line other one two
one_line Crio text line other one two = same_cri text line other one two
one_line Containerd text line other one two = same_cri text line other one two

no_cri_fault : (text : List ℕ) (line : ContainerLine) (fault : ContainerFault) → IsCriLine text line.timestamp (said_by line) → IsCriFaultOf text fault → fault ≡ Memory
no_cri_fault text line NotDocker is f = absurd f
no_cri_fault text line (NotCri at) is f = absurd (line_or_fault text line.timestamp (said_by line) at is f)
no_cri_fault text line Memory is f = refl

no_docker_fault : (text : List ℕ) (line : ContainerLine) (fault : ContainerFault) → IsLine Docker text line → IsDockerFaultOf text fault → fault ≡ Memory
no_docker_fault text line NotDocker is f = absurd (f line is)
no_docker_fault text line (NotCri at) is f = absurd f
no_docker_fault text line Memory is f = refl

pub no_fault : (format : Format) (text : List ℕ) (line : ContainerLine) (fault : ContainerFault) → IsLine format text line → IsLineFault format text fault → fault ≡ Memory
no_fault Docker text line fault is f = no_docker_fault text line fault is f
no_fault Crio text line fault is f = no_cri_fault text line fault is f
no_fault Containerd text line fault is f = no_cri_fault text line fault is f

same_cri_fault : (text : List ℕ) (fault other : ContainerFault) → IsCriFaultOf text fault → IsCriFaultOf text other → fault ≢ Memory → other ≢ Memory → fault ≡ other
same_cri_fault text NotDocker other f g m n = absurd f
same_cri_fault text Memory other f g m n = absurd (m refl)
same_cri_fault text (NotCri at) NotDocker f g m n = absurd g
same_cri_fault text (NotCri at) Memory f g m n = absurd (n refl)
same_cri_fault text (NotCri at) (NotCri to) f g m n = ap NotCri (one_cri_fault text at to f g)

same_docker_fault : (text : List ℕ) (fault other : ContainerFault) → IsDockerFaultOf text fault → IsDockerFaultOf text other → fault ≢ Memory → other ≢ Memory → fault ≡ other
same_docker_fault text NotDocker NotDocker f g m n = refl
same_docker_fault text NotDocker (NotCri at) f g m n = absurd g
same_docker_fault text NotDocker Memory f g m n = absurd (n refl)
same_docker_fault text (NotCri at) other f g m n = absurd f
same_docker_fault text Memory other f g m n = absurd (m refl)

pub one_fault : (format : Format) (text : List ℕ) (fault other : ContainerFault) → IsLineFault format text fault → IsLineFault format text other
    → fault ≢ Memory → other ≢ Memory → fault ≡ other
one_fault Docker text fault other f g m n = same_docker_fault text fault other f g m n
one_fault Crio text fault other f g m n = same_cri_fault text fault other f g m n
one_fault Containerd text fault other f g m n = same_cri_fault text fault other f g m n
