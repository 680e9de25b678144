use Rattle.text_parsers.proofs.OneReading.{one_reading}
use Rattle.text_parsers.proofs.laws.text_is_one_list_of_pairs.Goals as goal

pub returns : goal.returns
returns c = λ delimiters text members other a b. one_reading delimiters text members other a b
