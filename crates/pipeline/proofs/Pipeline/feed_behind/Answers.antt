use Rattle.pipeline.specs.Origin.{origin_of}
use Rattle.pipeline.specs.Parts.{settings_of, network}
use Rattle.pipeline.proofs.Feeding.{GraphLaws, goes_on}
use Rattle.pipeline.proofs.Texts.{on_ok}
use Rattle.pipeline.proofs.Pipeline.feed_behind.Goals as goal

pub returns-clause-goes_on : goal.returns-clause-goes_on
returns-clause-goes_on c =
    let graph : GraphLaws (network c.args.self.now) = record { begin = c.begin.ensures; states = c.go_on.ensures.states; items = c.go_on.ensures.items } in
    on_ok c.feed_by.result _ _ c.feed_by.ensures.fed (λ fed. λ earlier stands.
    goes_on (settings_of c.args.self.now) (network c.args.self.now) (origin_of c.args.file.now.id c.args.file.now.path.now c.args.file.now.observed) graph earlier _ c.args.state.now c.feed_by.new.state c.args.out.now.items c.feed_by.new.out.items stands (fed (origin_of c.args.file.now.id c.args.file.now.path.now c.args.file.now.observed) c.in_ok-source.ensures))

pub returns-clause-fed : goal.returns-clause-fed
returns-clause-fed c = on_ok c.feed_by.result _ _ c.feed_by.ensures.fed (λ fed. fed (origin_of c.args.file.now.id c.args.file.now.path.now c.args.file.now.observed) c.in_ok-source.ensures)

pub feed_by-requires-clause-source : goal.feed_by-requires-clause-source
feed_by-requires-clause-source c = (origin_of c.args.file.now.id c.args.file.now.path.now c.args.file.now.observed, c.in_ok-source.ensures)
