use Rattle.standing.proofs.PassLemmas.{nothing_stands}
use Rattle.standing.proofs.StandsLemmas.{stands_last, standing_lasts}
use Rattle.standing.proofs.laws.standing_lasts.Goals as goal

pub returns-clause-image : goal.returns-clause-image
returns-clause-image c = λ eras old new there file laws later standing. standing_lasts eras laws old new there file later standing

pub returns-clause-rows : goal.returns-clause-rows
returns-clause-rows c = λ eras old new rows next_id output laws later stands. stands_last eras laws old new rows next_id output later stands

pub returns-clause-nothing : goal.returns-clause-nothing
returns-clause-nothing c = nothing_stands
