use Rattle.std.proofs.Common.{sym, ap, ◌∙◌}
use Rattle.container_parser.specs.Pods.{is_container_byte}
use Rattle.container_parser.specs.Words.{is_made_of}
use Rattle.container_parser.proofs.Paths.{no_folder, no_file, no_container, when_none}
use Rattle.container_parser.proofs.pod.names_of.Goals as goal

pub returns-in_err-folder-clause-none : goal.returns-in_err-folder-clause-none
returns-in_err-folder-clause-none c =
    when_none c.from_residual.result (λ pod is. c.in_err-folder.ensures.none is.folder pod.container is.file is.last)

pub returns-in_err-namespace-clause-none : goal.returns-in_err-namespace-clause-none
returns-in_err-namespace-clause-none c =
    let last = c.in_ok-folder in
    when_none c.from_residual-in_err-namespace.result (λ pod is.
    no_folder c.args.path.now last.folder.now last.container.now last.file.now pod last.ensures.some c.in_err-namespace.ensures.none is)

pub returns-in_err-restarts-clause-none : goal.returns-in_err-restarts-clause-none
returns-in_err-restarts-clause-none c =
    let last = c.in_ok-folder in
    when_none c.from_residual-in_err-restarts.result (λ pod is.
    no_file c.args.path.now last.folder.now last.container.now last.file.now pod last.ensures.some c.in_err-restarts.ensures.none is)

pub returns-then-not-is_container-clause-none : goal.returns-then-not-is_container-clause-none
returns-then-not-is_container-clause-none c =
    let last = c.in_ok-folder in
    λ pod is.
    no_container c.args.path.now last.folder.now last.container.now last.file.now pod last.ensures.some
    (ap (is_made_of is_container_byte) (sym c.as_bytes.ensures.value) ∙ sym c.is_container.ensures ∙ c.if-not-is_container.true) is
