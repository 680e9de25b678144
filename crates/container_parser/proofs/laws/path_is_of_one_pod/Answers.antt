use Rattle.container_parser.proofs.Paths.{one_pod}
use Rattle.container_parser.proofs.laws.path_is_of_one_pod.Goals as goal

pub returns : goal.returns
returns c = one_pod
