use Rattle.command_words.proofs.Commands.{flagged}
use Rattle.command_words.proofs.laws.flags_spell_no_command.Goals as goal

pub returns : goal.returns
returns c = flagged
