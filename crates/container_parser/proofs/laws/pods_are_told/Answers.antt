use Rattle.container_parser.proofs.PodsTold.{pod_is, is_pod}
use Rattle.container_parser.proofs.laws.pods_are_told.Goals as goal

pub returns : goal.returns
returns c = λ path pod. (is_pod path pod, pod_is path pod)
