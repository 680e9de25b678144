use Rattle.std.proofs.Common.{◌∙◌, ap}
use Rattle.std.proofs.lemmas.List.{take_rest}
use Rattle.command_words.specs.Words.{texts}
use Rattle.agent_commands.proofs.PartsLemmas.{is_a_command, texts_behind}
use Rattle.agent_commands.proofs.segments.run_segmented.Goals as goal

pub returns-clause-runs : goal.returns-clause-runs
returns-clause-runs g c over = rw (ap texts (take_rest c.args.words.now 1) ∙ texts_behind c.args.words.now) at c.run_over.ensures.runs

pub returns-clause-lengths : goal.returns-clause-lengths
returns-clause-lengths g c over = c.run_over.ensures.kept

pub returns-clause-usage : goal.returns-clause-usage
returns-clause-usage g c is over = is_a_command (texts c.args.words.now) over (rw (ap texts (take_rest c.args.words.now 1) ∙ texts_behind c.args.words.now) at (c.run_over.ensures.usage is))
