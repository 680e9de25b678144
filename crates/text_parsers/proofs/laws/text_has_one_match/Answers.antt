use Rattle.text_parsers.proofs.OneReading.{one_match}
use Rattle.text_parsers.proofs.laws.text_has_one_match.Goals as goal

pub returns : goal.returns
returns c = λ source text members other a b. one_match source text members other a b
