use Rattle.container_parser.proofs.TimeForms.{wrong_time_begins}
use Rattle.container_parser.proofs.laws.bytes_before_a_wrong_time_begin_its_form.Goals as goal

pub returns : goal.returns
returns c = wrong_time_begins
