use Rattle.std.proofs.Common.{refl}
use Rattle.std.proofs.lemmas.Result.{err_from_is_err_and}
use Rattle.lifetimes.proofs.RefusalLemmas.{settings_refused}
use Rattle.pipeline.specs.AsRules.{rules_of}
use Rattle.pipeline.specs.declared.Pipeline.{Pipeline}
use Rattle.lifetimes.proofs.run.try_settings.Goals as goal

pub returns-in_err-pipeline-clause-refusal : goal.returns-in_err-pipeline-clause-refusal
returns-in_err-pipeline-clause-refusal c =
    let p = err_from_is_err_and c.from_residual.result c.from_residual.ensures.1 in
    rw (p.1, p.2) (settings_refused Pipeline c.args.settings.now c.in_err-pipeline.field-0.0 c.in_err-pipeline.ensures.refusal c.in_err-pipeline.ensures.early (c.in_err-pipeline.ensures.cause 0))

pub returns-clause-ok : goal.returns-clause-ok
returns-clause-ok c =
    let text = c.args.settings.now in
    let pipeline = c.in_ok-pipeline.pipeline in
    let made = c.in_ok-pipeline.ensures.made in
    (rules_of text pipeline, (pipeline, made, refl), c.a_pipeline_is_rules.ensures text (c.settings_keep_limits.ensures _ _ made.said))
