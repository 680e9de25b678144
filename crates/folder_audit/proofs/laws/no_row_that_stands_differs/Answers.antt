use Rattle.folder_audit.proofs.HoldLemmas.{never_differs}
use Rattle.pipeline.proofs.OfText.{one_set}
use Rattle.folder_audit.proofs.laws.no_row_that_stands_differs.Goals as goal

pub returns : goal.returns
returns c = never_differs (one_set c.text_spells_one_pattern.ensures)
