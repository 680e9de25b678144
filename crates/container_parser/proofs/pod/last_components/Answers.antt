use Rattle.container_parser.proofs.Paths.{no_components, no_two_components, when_none}
use Rattle.container_parser.proofs.pod.last_components.Goals as goal

pub returns-in_err-parents-clause-none : goal.returns-in_err-parents-clause-none
returns-in_err-parents-clause-none c =
    when_none c.from_residual.result (λ folder container file last. no_components c.args.path.now folder container file c.in_err-parents.ensures.none last)

pub returns-in_err-front-clause-none : goal.returns-in_err-front-clause-none
returns-in_err-front-clause-none c =
    let outer = c.in_ok-parents in
    when_none c.from_residual-in_err-front.result (λ folder container file last.
    no_two_components c.args.path.now outer.parents.now outer.file.now folder container file outer.ensures.parts outer.ensures.last c.in_err-front.ensures.none last)
