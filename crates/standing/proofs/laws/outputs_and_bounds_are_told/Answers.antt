use Rattle.standing.proofs.TellLemmas.{text_tells_marks, bound_tells_tokens}
use Rattle.standing.proofs.laws.outputs_and_bounds_are_told.Goals as goal

pub returns-clause-lines : goal.returns-clause-lines
returns-clause-lines c = λ rules marks others laws. text_tells_marks rules laws marks others

pub returns-clause-tokens : goal.returns-clause-tokens
returns-clause-tokens c = λ rules content bound tokens others laws. bound_tells_tokens rules laws content bound tokens others
