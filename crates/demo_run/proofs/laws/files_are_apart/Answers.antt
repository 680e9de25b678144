use Rattle.demo_run.proofs.Fronts.{apart_by_rounds}
use Rattle.demo_run.proofs.laws.files_are_apart.Goals as goal

pub returns : goal.returns
returns c = λ rounds size history few wide of. apart_by_rounds rounds size history few wide of
