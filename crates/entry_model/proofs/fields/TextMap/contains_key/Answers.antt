use Rattle.std.proofs.Common.{◌∙◌}
use Rattle.entry_model.proofs.fields.TextMap.contains_key.Goals as goal

pub returns : goal.returns
returns g c = c.is_ok.ensures.value ∙ c.place.ensures.tells
