use Rattle.time_layout.proofs.GoTexts.{go_texts_read_exactly, go_fault_is}
use Rattle.time_layout.proofs.laws.go_layouts_are_made_of_names.Goals as goal

pub returns-clause-ok : goal.returns-clause-ok
returns-clause-ok c = go_texts_read_exactly

pub returns-clause-fault : goal.returns-clause-fault
returns-clause-fault c = go_fault_is
