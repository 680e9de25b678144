use Rattle.graph_core.proofs.Pushing.{seen_routes}
use Rattle.graph_core.proofs.laws.count_all_routes.Goals as goal

pub returns : goal.returns
returns g c = seen_routes c.graph.inside.nodes.items c.args.graph.now c.graph.inside.order.items c.graph.view_is c.graph.invariant
