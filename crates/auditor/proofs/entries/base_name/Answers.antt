use Rattle.pipeline.proofs.Paths.{name_behind, whole_name}
use Rattle.auditor.proofs.entries.base_name.Goals as goal

pub returns-in-Some : goal.returns-in-Some
returns-in-Some c =
    let found = c.in-Some.ensures.cases in
    name_behind c.args.path.now c.in-Some.name.now found.0 found.1 found.2 found.4 found.7

pub returns-in-None : goal.returns-in-None
returns-in-None c = whole_name c.args.path.now c.in-None.ensures.cases
