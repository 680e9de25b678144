use Rattle.time_layout.proofs.Layouts.{layouts_read_exactly, layout_faults}
use Rattle.time_layout.proofs.laws.layouts_are_made_of_pieces.Goals as goal

pub returns-clause-ok : goal.returns-clause-ok
returns-clause-ok c = layouts_read_exactly

pub returns-clause-fault : goal.returns-clause-fault
returns-clause-fault c = layout_faults
