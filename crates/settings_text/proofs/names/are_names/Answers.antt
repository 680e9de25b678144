use Rattle.settings_text.specs.Names.{parts_of}
use Rattle.settings_text.proofs.HeaderParts.{fresh_at_first}
use Rattle.settings_text.proofs.names.are_names.Goals as goal

pub names-init : goal.names-init
names-init c = fresh_at_first c.new-seen.result c.new-seen.ensures.empty (parts_of c.args.delimiter c.args.header.now)
