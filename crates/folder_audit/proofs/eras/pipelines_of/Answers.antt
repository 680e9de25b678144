use Rattle.std.proofs.Common.{◌≡◌, Some, length, refl}
use Rattle.std.proofs.lemmas.Option.{slice_get_read}
use Rattle.std.proofs.lemmas.Result.{err_from_is_err_and}
use Rattle.std.specs.Prelude.{slice_get}
use Rattle.folder_audit.specs.declared.fault.AuditFault.TheVariants.{Memory}
use Rattle.folder_audit.proofs.MadeLemmas.{made_none, made_more, first_refused}
use Rattle.folder_audit.proofs.eras.pipelines_of.Goals as goal

pub loop-text-init : goal.loop-text-init
loop-text-init c = rw c.new-pipes.ensures.items (made_none c.args.eras.now)

pub returns-in_err-pipeline_of-clause-refused : goal.returns-in_err-pipeline_of-clause-refused
returns-in_err-pipeline_of-clause-refused c =
    let texts = c.args.eras.now in
    let i = c.loop-text.text-index in
    let text = c.text-item.result in
    let there : slice_get texts i ≡ Some text = slice_get_read texts (length texts) i text refl (rw c.as_slice-text-items.ensures at c.loop-text-test.true) (rw c.as_slice-text-items.ensures at c.text-item.is) in
    let p = err_from_is_err_and c.from_residual.result c.from_residual.ensures.1 in
    rw (p.1, p.2) (first_refused texts c.loop-text.pipes.items i text _ c.loop-text.invariant there (rw c.as_slice.ensures at c.in_err-pipeline_of.ensures.refused))

pub returns-in_err-push-clause-refused : goal.returns-in_err-push-clause-refused
returns-in_err-push-clause-refused c =
    let texts = c.args.eras.now in
    let i = c.loop-text.text-index in
    let text = c.text-item.result in
    let there : slice_get texts i ≡ Some text = slice_get_read texts (length texts) i text refl (rw c.as_slice-text-items.ensures at c.loop-text-test.true) (rw c.as_slice-text-items.ensures at c.text-item.is) in
    let p = err_from_is_err_and c.from_residual-in_err-push.result c.from_residual-in_err-push.ensures.1 in
    rw (p.1, p.2) (first_refused texts c.loop-text.pipes.items i text Memory c.loop-text.invariant there tt)

pub loop-text-preserved : goal.loop-text-preserved
loop-text-preserved c =
    let texts = c.args.eras.now in
    let i = c.loop-text.text-index in
    let text = c.text-item.result in
    let there : slice_get texts i ≡ Some text = slice_get_read texts (length texts) i text refl (rw c.as_slice-text-items.ensures at c.loop-text-test.true) (rw c.as_slice-text-items.ensures at c.text-item.is) in
    rw c.in_ok-push.ensures.items (made_more texts c.loop-text.pipes.items i text c.in_ok-pipeline_of.field-0 c.loop-text.invariant there (rw c.as_slice.ensures at c.in_ok-pipeline_of.ensures.made))
