use Rattle.settings_text.proofs.HeaderParts.{has_more}
use Rattle.settings_text.proofs.names.add_name.Goals as goal

pub returns-clause-added : goal.returns-clause-added
returns-clause-added c = λ _ other. has_more c.args.seen.now c.insert.new.self c.args.name c.in_ok-insert.ensures.updates other
