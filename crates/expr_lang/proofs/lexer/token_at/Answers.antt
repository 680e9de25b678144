use Rattle.expr_lang.proofs.Lengths.{some_found, within_found}
use Rattle.expr_lang.proofs.lexer.token_at.Goals as goal

pub returns-clause-some : goal.returns-clause-some
returns-clause-some c = some_found c.args.text.now c.args.at c.in_ok-found.found c.in_ok-found.ensures

pub returns-clause-within : goal.returns-clause-within
returns-clause-within c = within_found c.args.text.now c.args.at c.requires c.in_ok-found.found c.in_ok-found.ensures
