use Rattle.op_kinds.proofs.Pairing.{pairs_are_read}
use Rattle.op_kinds.proofs.Recording.{records_are_read}
use Rattle.op_kinds.proofs.Said.{groups_are_matched, objects_are_spelled}
use Rattle.op_kinds.proofs.laws.texts_say_members.Goals as goal

pub returns-clause-groups : goal.returns-clause-groups
returns-clause-groups c = groups_are_matched

pub returns-clause-object : goal.returns-clause-object
returns-clause-object c = objects_are_spelled

pub returns-clause-csv : goal.returns-clause-csv
returns-clause-csv c = records_are_read

pub returns-clause-pairs : goal.returns-clause-pairs
returns-clause-pairs c = λ delimiters text members some. pairs_are_read delimiters text members some
