use Rattle.settings_text.proofs.Limits.{settings_keep}
use Rattle.settings_text.proofs.laws.settings_keep_limits.Goals as goal

pub returns : goal.returns
returns c = settings_keep
