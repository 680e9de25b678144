use Rattle.std.proofs.Common.{◌∙◌, ap}
use Rattle.graph_core.specs.Closing.{closing_order}
use Rattle.graph_core.specs.Wiring.{edges_of, wiring_of}
use Rattle.graph_core.proofs.Graph.closing.Goals as goal

pub returns : goal.returns
returns g c = c.as_slice.ensures.value ∙ c.self.invariant.is_closing_order ∙ ap (λ nodes. closing_order (edges_of (wiring_of nodes))) c.self.view_is
