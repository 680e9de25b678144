use Rattle.standing.proofs.FindLemmas.{is_row, is_new, is_no_room}
use Rattle.standing.proofs.looks.files_are_known_by_their_fronts.Goals as goal

pub returns-clause-row : goal.returns-clause-row
returns-clause-row c = is_row

pub returns-clause-new : goal.returns-clause-new
returns-clause-new c = is_new

pub returns-clause-full : goal.returns-clause-full
returns-clause-full c = is_no_room
