use Rattle.std.proofs.Common.{List, ℕ, subst}
use Rattle.std.proofs.lemmas.Result.{err_from_is_err_and}
use Rattle.op_kinds.proofs.Compilable.{compilable}
use Rattle.pipeline.proofs.Building.{operators_refused}
use Rattle.pipeline.specs.BuildFaults.{IsOperatorFault}
use Rattle.pipeline.specs.Globs.{ArePatterns}
use Rattle.settings_text.specs.declared.settings.OpSpec.{OpSpec}
use Rattle.pipeline.proofs.Pipeline.build.Goals as goal

pub graph_of-requires-clause-compilable : goal.graph_of-requires-clause-compilable
graph_of-requires-clause-compilable c = λ place operator there.
    compilable operator.kind (c.requires.operators place operator (rw c.as_slice-3.ensures at there)).kind

pub returns-in_err-graph-clause-fault : goal.returns-in_err-graph-clause-fault
returns-in_err-graph-clause-fault c =
    let r = c.from_residual-in_err-graph in
    let p = err_from_is_err_and r.result r.ensures.1 in
    rw (p.1, p.2) (operators_refused c.args.settings c.in_err-graph.field-0.0
    (c.in_ok-include.include.items, subst (λ (texts : List (List ℕ)). ArePatterns texts c.in_ok-include.include.items) c.as_slice.ensures c.in_ok-include.ensures.ok)
    (c.in_ok-exclude.exclude.items, subst (λ (texts : List (List ℕ)). ArePatterns texts c.in_ok-exclude.exclude.items) c.as_slice-2.ensures c.in_ok-exclude.ensures.ok)
    c.in_ok-splitter.ensures.pattern
    (subst (λ (specs : List OpSpec). IsOperatorFault specs c.in_err-graph.field-0.0) c.as_slice-3.ensures c.in_err-graph.ensures.fault))
