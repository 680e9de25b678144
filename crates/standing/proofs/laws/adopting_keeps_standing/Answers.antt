use Rattle.standing.proofs.AdoptLemmas.{adopting_keeps}
use Rattle.standing.proofs.laws.adopting_keeps_standing.Goals as goal

pub returns : goal.returns
returns c = λ eras next history before after added file file_after laws more_laws. adopting_keeps eras laws next more_laws history before after added file file_after
