use Rattle.graph_core.proofs.Pushing.{seen_first}
use Rattle.graph_core.proofs.laws.list_callers_first.Goals as goal

pub returns : goal.returns
returns g c = seen_first c.graph.inside.nodes.items c.args.graph.now c.graph.inside.order.items c.graph.view_is c.graph.invariant
