use Rattle.text_parsers.proofs.OneReading.{one_record}
use Rattle.text_parsers.proofs.laws.text_is_one_record.Goals as goal

pub returns : goal.returns
returns c = λ columns text members other a b. one_record columns text members other a b
