use Rattle.std.proofs.Common.{◌≡◌, length, subst}
use Rattle.std.proofs.lemmas.Result.{IfErr-at_err, IfOk-weaker, err_from_is_err_and}
use Rattle.folder_audit.proofs.CourseLemmas.{audited_of, differing_of}
use Rattle.pipeline.proofs.OfText.{one_set}
use Rattle.folder_audit.specs.Refusals.{IsRefusal}
use Rattle.folder_audit.specs.Tally.{IsLeastOther, IsOtherFault}
use Rattle.folder_audit.specs.declared.fault.AuditFault.{AuditFault}
use Rattle.folder_audit.specs.declared.fault.AuditFault.TheVariants.{Differs}
use Rattle.folder_audit.proofs.folder.audit.Goals as goal

pub returns-in_err-kept-clause-differs : goal.returns-in_err-kept-clause-differs
returns-in_err-kept-clause-differs g c = λ file line is tells.
    let p = err_from_is_err_and c.from_residual.result c.from_residual.ensures.1 in
    let same : c.in_err-kept.field-0.0 ≡ Differs file line = cc (p.1, p.2, is) in
    absurd (subst (λ (f : AuditFault). IsRefusal (g.D.Disk.meaning.images.seen c.args.disk.now) f) same (c.in_err-kept.ensures.refused tells))

pub tally-requires-clause-fit : goal.tally-requires-clause-fit
tally-requires-clause-fit g c = (length c.in_ok-kept.kept.pipes.items, rw c.as_slice.ensures c.in_ok-kept.ensures.fit.rows)

pub returns-clause-audited : goal.returns-clause-audited
returns-clause-audited g c =
    let seen = g.D.Disk.meaning.images.seen c.args.disk.now in
    let kept = c.in_ok-kept.kept in
    IfOk-weaker c.tally.result _ _ (λ audited tallied tells. audited_of seen kept (c.in_ok-kept.ensures.kept tells) c.in_ok-kept.ensures.fit c.in_ok-found.found.items g.T.Tree.meaning c.args.tree.now c.found_of.new.tree c.in_ok-found.ensures.found
    (one_set c.text_spells_one_pattern.ensures) c.found_of.ensures.tree.world c.in_ok-found.ensures.due audited (rw (c.as_slice.ensures, c.deref.ensures.value) at tallied)) c.tally.ensures.ok

pub returns-clause-differs : goal.returns-clause-differs
returns-clause-differs g c = λ file line is tells.
    let seen = g.D.Disk.meaning.images.seen c.args.disk.now in
    let kept = c.in_ok-kept.kept in
    let least : IsLeastOther c.as_slice.result.now c.deref.result.now file line = IfErr-at_err (IsOtherFault c.as_slice.result.now c.deref.result.now) is c.tally.ensures.err in
    differing_of seen kept (c.in_ok-kept.ensures.kept tells) c.in_ok-kept.ensures.fit c.in_ok-found.found.items g.T.Tree.meaning c.args.tree.now c.found_of.new.tree c.in_ok-found.ensures.found
    file line (rw (c.as_slice.ensures, c.deref.ensures.value) at least)
