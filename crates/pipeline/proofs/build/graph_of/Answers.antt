use Rattle.std.proofs.Common.{ap}
use Rattle.graph_core.specs.Traces.{network_of}
use Rattle.op_kinds.specs.Operator.{behavior_of}
use Rattle.pipeline.proofs.Building.{own_ids}
use Rattle.pipeline.proofs.build.graph_of.Goals as goal

pub returns-in-Ok-clause-network : goal.returns-in-Ok-clause-network
returns-in-Ok-clause-network c = record {
  differ = own_ids c.args.specs.now c.in_ok-nodes.ensures.fine;
  nodes = c.in_ok-nodes.nodes.items;
  are = c.in_ok-nodes.ensures.nodes;
  accepted = c.in-Ok.ensures.accepted.1;
  is = ap (network_of behavior_of) c.in-Ok.ensures.accepted.0;
}
