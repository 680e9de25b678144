use Rattle.graph_core.proofs.Delivering.{some_weaker}
use Rattle.graph_core.proofs.walk.only_target.Goals as goal

pub returns-in-Some : goal.returns-in-Some
returns-in-Some g c =
    let port = c.in-Some.port in
    let alone = c.in-Some.ensures in
    some_weaker c.sole_target.result _ _ (λ to e. record { port = port; item = alone.0; is_said = alone.1; is_target = e }) c.sole_target.ensures
