use Rattle.std.proofs.Common.{length, ◌∙◌, ap, refl, List}
use Rattle.file_tracker.specs.declared.row.Row.{Row}
use Rattle.checkpoint_store.specs.declared.Change.{Change}
use Rattle.crash_tests.proofs.Resting.{one_flagged}
use Rattle.crash_tests.proofs.journals.parts_of.Goals as goal

pub returns : goal.returns
returns c =
    let change : Change = c.args.change.now in
    ap (λ (rows : List Row). record change { rows = rows }) (one_flagged _ c.as_slice.result.now refl (ap length c.as_slice.ensures ∙ c.requires) ∙ c.as_slice.ensures)
