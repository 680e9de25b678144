use Rattle.std.proofs.Common.{ap, ◌∙◌}
use Rattle.std.specs.Prelude.{unwrap_or, position}
use Rattle.std.specs.Str.{bytes_eq}
use Rattle.pipeline.proofs.Targets.{named}
use Rattle.pipeline.proofs.wiring.target_of.Goals as goal

pub returns : goal.returns
returns c =
    named c.args.ids.now.keys c.args.name.now c.unwrap_or-place.result
    (c.unwrap_or-place.ensures ∙ ap (λ found. unwrap_or found c.len.result) c.get_index_of.ensures.index ∙ ap (unwrap_or (position (λ key. bytes_eq c.args.name.now key.now) c.args.ids.now.keys)) c.len.ensures.len)
