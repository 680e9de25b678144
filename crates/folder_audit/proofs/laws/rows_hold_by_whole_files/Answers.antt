use Rattle.folder_audit.proofs.HoldLemmas.{holds_whole}
use Rattle.pipeline.proofs.OfText.{one_set}
use Rattle.folder_audit.proofs.laws.rows_hold_by_whole_files.Goals as goal

pub returns : goal.returns
returns c = λ eras texts pipes last place row output old new are made fit judged.
    holds_whole (one_set c.text_spells_one_pattern.ensures) eras texts pipes place row are made fit last output old new judged
