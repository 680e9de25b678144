use Rattle.pipeline.specs.Parts.{settings_of, network}
use Rattle.pipeline.proofs.Feeding.{GraphLaws, prefix_kept}
use Rattle.pipeline.proofs.laws.keep_prefix.Goals as goal

pub returns : goal.returns
returns c =
    let graph : GraphLaws (network c.args.pipeline.now) = record { begin = c.begin.ensures; states = c.go_on.ensures.states; items = c.go_on.ensures.items } in
    prefix_kept (settings_of c.args.pipeline.now) (network c.args.pipeline.now) graph
