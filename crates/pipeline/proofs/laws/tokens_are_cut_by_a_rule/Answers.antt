use Rattle.pipeline.proofs.Cutting.{cut_by_a_rule}
use Rattle.pipeline.proofs.laws.tokens_are_cut_by_a_rule.Goals as goal

pub returns : goal.returns
returns c =
    let settings = c.args.pipeline.now.settings in
    cut_by_a_rule settings.max_log_size c.lines_are_cut_by_a_rule.ensures c.tokens_are_cut_by_a_rule.ensures settings.multiline
