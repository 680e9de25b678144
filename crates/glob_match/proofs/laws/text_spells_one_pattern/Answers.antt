use Rattle.glob_match.proofs.Faults.{one_pattern}
use Rattle.glob_match.proofs.laws.text_spells_one_pattern.Goals as goal

pub returns : goal.returns
returns c = one_pattern
