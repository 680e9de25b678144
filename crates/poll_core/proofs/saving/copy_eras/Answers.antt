use Rattle.std.proofs.Common.{◌≡◌, ℕ, List, Some, length, refl, subst}
use Rattle.std.proofs.lemmas.Option.{slice_get_read}
use Rattle.std.specs.Prelude.{slice_get}
use Rattle.part_closing.proofs.ClosingLemmas.{take_next}
use Rattle.poll_core.proofs.saving.copy_eras.Goals as goal

pub loop-text-preserved : goal.loop-text-preserved
loop-text-preserved c =
    let texts = c.as_slice-text-items.result.now in
    let place = c.loop-text.text-index in
    let text = c.text-item.result in
    let there : slice_get texts place ≡ Some text = slice_get_read texts (length texts) place text refl c.loop-text-test.true c.text-item.is in
    let at : slice_get c.args.eras.now place ≡ Some text = subst (λ (all : List (List ℕ)). slice_get all place ≡ Some text) c.as_slice-text-items.ensures there in
    let next = take_next c.args.eras.now place text at in
    let pushed = c.in_ok-push.ensures.items in
    let copied = c.in_ok-from_slice.ensures in
    let sliced = c.as_slice.ensures in
    cc
