use Rattle.std.proofs.Common.{map, ap, ◌∙◌}
use Rattle.op_kinds.specs.Kept.{keeps_groups}
use Rattle.pipeline.proofs.StateKinds.{kinds_begun}
use Rattle.pipeline.proofs.Texts.{on_ok}
use Rattle.pipeline.proofs.Pipeline.close.Goals as goal

pub returns-clause-states : goal.returns-clause-states
returns-clause-states c =
    on_ok c.append_lines.result _ _ c.append_lines.ensures.lines
    (λ _. ap (map keeps_groups) c.in_ok-close.ensures.fresh ∙ kinds_begun c.args.self.now.graph)
