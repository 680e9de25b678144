use Rattle.std.proofs.Common.{arith, length-drop}
use Rattle.std.proofs.lemmas.List.{take_rest}
use Rattle.pipeline.specs.Origin.{origin_of}
use Rattle.pipeline.specs.Parts.{settings_of, network}
use Rattle.pipeline.proofs.Cutting.{nothing_searched}
use Rattle.pipeline.proofs.Feeding.{GraphLaws, LineLaws, fed_then}
use Rattle.pipeline.proofs.Texts.{on_ok}
use Rattle.pipeline.proofs.Pipeline.finish.Goals as goal

pub returns-clause-finished : goal.returns-clause-finished
returns-clause-finished c =
    let graph : GraphLaws (network c.args.self.now) = record { begin = c.begin.ensures; states = c.go_on.ensures.states; items = c.go_on.ensures.items } in
    let lines : LineLaws = record { none = c.lines_append.ensures.none; append = c.lines_append.ensures.append } in
    let rest = rw (take_rest c.args.bytes.now c.in_ok-taken.taken.used, c.in_ok-taken.ensures.used) at (c.in_ok-feed_by.ensures.fed (origin_of c.args.id c.args.path.now c.args.observed) c.in_ok-source.ensures) in
    on_ok c.close.result _ _ c.close.ensures.closed
    (λ closed. record {
      between = c.feed_by-2.new.state;
      out_between = c.feed_by-2.new.out.items;
      fed = fed_then (settings_of c.args.self.now) (network c.args.self.now) (origin_of c.args.id c.args.path.now c.args.observed) graph lines _ _ c.args.state.now c.feed_by.new.state c.feed_by-2.new.state c.args.out.now.items c.feed_by.new.out.items c.feed_by-2.new.out.items (c.in_ok-taken.ensures.fed (origin_of c.args.id c.args.path.now c.args.observed) c.in_ok-source.ensures) rest;
      closed = closed;
    })

pub returns-clause-records : goal.returns-clause-records
returns-clause-records c =
    let within = rw (take_rest c.args.bytes.now c.in_ok-taken.taken.used) at c.in_ok-feed_by.ensures.within in
    on_ok c.close.result _ _ c.close.ensures.closed
    (λ closed. omega (arith, closed.records, c.in_ok-feed_by.ensures.records, within, length-drop c.in_ok-taken.taken.used c.args.bytes.now, c.in_ok-taken.ensures.records, c.in_ok-taken.ensures.within))

pub returns-clause-lines : goal.returns-clause-lines
returns-clause-lines c = on_ok c.close.result _ _ c.close.ensures.lines (λ closed. omega (arith, closed, c.in_ok-feed_by.ensures.lines, c.in_ok-taken.ensures.lines))

pub feed_by-requires-clause-source : goal.feed_by-requires-clause-source
feed_by-requires-clause-source c = (origin_of c.args.id c.args.path.now c.args.observed, c.in_ok-source.ensures)

pub feed_by-requires-2-clause-source : goal.feed_by-requires-2-clause-source
feed_by-requires-2-clause-source c = (origin_of c.args.id c.args.path.now c.args.observed, c.in_ok-source.ensures)

pub feed_by-requires-clause-searched : goal.feed_by-requires-clause-searched
feed_by-requires-clause-searched c = nothing_searched (settings_of c.args.self.now) _

pub feed_by-requires-2-clause-searched : goal.feed_by-requires-2-clause-searched
feed_by-requires-2-clause-searched c = nothing_searched (settings_of c.args.self.now) _
