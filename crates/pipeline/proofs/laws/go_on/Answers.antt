use Rattle.std.proofs.Common.{sym, []}
use Rattle.pipeline.specs.Parts.{settings_of, network}
use Rattle.pipeline.proofs.Feeding.{GraphLaws, kept_on, given_on}
use Rattle.pipeline.proofs.laws.go_on.Goals as goal

pub returns-clause-none : goal.returns-clause-none
returns-clause-none c = λ path before states. sym (c.begin.ensures states []).states

pub returns-clause-nothing : goal.returns-clause-nothing
returns-clause-nothing c = λ path before states. sym (c.begin.ensures states []).items

pub returns-clause-kept : goal.returns-clause-kept
returns-clause-kept c =
    let graph : GraphLaws (network c.args.pipeline.now) = record { begin = c.begin.ensures; states = c.go_on.ensures.states; items = c.go_on.ensures.items } in
    kept_on (settings_of c.args.pipeline.now) (network c.args.pipeline.now) graph

pub returns-clause-given : goal.returns-clause-given
returns-clause-given c =
    let graph : GraphLaws (network c.args.pipeline.now) = record { begin = c.begin.ensures; states = c.go_on.ensures.states; items = c.go_on.ensures.items } in
    given_on (settings_of c.args.pipeline.now) (network c.args.pipeline.now) graph
