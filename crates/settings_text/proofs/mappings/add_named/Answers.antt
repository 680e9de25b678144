use Rattle.std.proofs.Common.{List, Ok, ap}
use Rattle.std.proofs.lemmas.List.{append-nil}
use Rattle.settings_text.specs.Rules.{Rule}
use Rattle.settings_text.proofs.mappings.add_named.Goals as goal

pub returns-in_default : goal.returns-in_default
returns-in_default c = rw (← c.in_default.ensures.is) (ap (λ (l : List Rule). Ok l) (append-nil c.args.rules.now.items))
