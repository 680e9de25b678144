use Rattle.command_words.proofs.Commands.{one_answer}
use Rattle.command_words.proofs.laws.words_have_one_answer.Goals as goal

pub returns : goal.returns
returns c = one_answer
