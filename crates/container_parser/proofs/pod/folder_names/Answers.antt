use Rattle.std.proofs.Common.{sym, ◌∙◌}
use Rattle.container_parser.proofs.Paths.{not_parted, parted_once, no_names, when_none}
use Rattle.container_parser.proofs.pod.folder_names.Goals as goal

pub returns-in_err-namespace-clause-none : goal.returns-in_err-namespace-clause-none
returns-in_err-namespace-clause-none c =
    when_none c.from_residual.result (λ namespace pod uid is. not_parted c.args.folder.now namespace pod uid c.in_err-namespace.ensures.none is)

pub returns-in_err-pod-clause-none : goal.returns-in_err-pod-clause-none
returns-in_err-pod-clause-none c =
    let outer = c.in_ok-namespace in
    when_none c.from_residual-in_err-pod.result (λ namespace pod uid is.
    parted_once c.args.folder.now outer.namespace.now outer.rest.now namespace pod uid outer.ensures.parts outer.ensures.first c.in_err-pod.ensures.none is)

pub returns-then-not-are_names-clause-none : goal.returns-then-not-are_names-clause-none
returns-then-not-are_names-clause-none c =
    let outer = c.in_ok-namespace in let inner = c.in_ok-pod in
    λ namespace pod uid is.
    no_names c.args.folder.now outer.namespace.now outer.rest.now inner.pod.now inner.uid.now namespace pod uid
    outer.ensures.parts outer.ensures.first inner.ensures.parts inner.ensures.first (sym c.are_names.ensures ∙ c.if-not-are_names.true) is
