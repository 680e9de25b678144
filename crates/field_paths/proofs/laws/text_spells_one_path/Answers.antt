use Rattle.field_paths.proofs.Faults.{one_path}
use Rattle.field_paths.proofs.laws.text_spells_one_path.Goals as goal

pub returns : goal.returns
returns c = one_path
