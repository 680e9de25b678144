use Rattle.std.proofs.Common.{◌+◌, ap, ◌∙◌, arith, ◌≡◌}
use Rattle.std.specs.Prelude.{slice_get}
use Rattle.graph_core.specs.Traces.{network_of, calls_for}
use Rattle.graph_core.proofs.Sorts.{along}
use Rattle.graph_core.proofs.laws.keep_sorts.Goals as goal

pub returns : goal.returns
returns g c = λ sort sorts keeps from is requests.
    let network = network_of g.O.Step.behavior c.args.graph.now in
    along sort network (calls_for network from requests) 0 from sorts
    (λ k wanted b sort_at at. let same : k ≡ 0 + k = omega arith in keeps k wanted b sort_at (ap (slice_get network.behaviors) same ∙ at)) is
