use Rattle.std.proofs.Common.{◌≡◌, ℕ, subst, ap, arith, ◌∙◌, refl}
use Rattle.std.proofs.lemmas.Result.{IfErr-weaker, err_from_is_err_and}
use Rattle.std.specs.Prelude.{IfOk}
use Rattle.outside.proofs.Passing.{passes_none}
use Rattle.outside.specs.Crash.{Passes}
use Rattle.outside.specs.Image.{Image}
use Rattle.outside.specs.declared.disk.DiskFile.{DiskFile}
use Rattle.pipeline.specs.AsRules.{rules_of}
use Rattle.checkpoint_store.specs.declared.Checkpoint.{Checkpoint}
use Rattle.poll_core.proofs.AdoptDisk.{has_saved, may_after_same, may_by_same, own_journal}
use Rattle.poll_core.proofs.AdoptRefusals.{late_next}
use Rattle.poll_core.proofs.AdoptStands.{adopting_stands, same_stands}
use Rattle.poll_core.proofs.CallLemmas.{calls_more, calls_none, calls_then}
use Rattle.poll_core.proofs.RefusalLemmas.{same_saved}
use Rattle.poll_core.proofs.session.Session.adopt.Goals as goal
use Rattle.poll_core.specs.AdoptFaults.{IsUnadopted}
use Rattle.poll_core.specs.Adopting.{IsAdopted, MayAdopt}
use Rattle.poll_core.specs.SessionParts.{checkpoint_of_session, last_text, limit_of}
use Rattle.slot_store.proofs.OnlyReading.{keeps_terms_then}
use Rattle.slot_store.specs.Synced.{EachLeft}

pub returns-in_err-session-clause-of_next : goal.returns-in_err-session-clause-of_next
returns-in_err-session-clause-of_next g c =
    let p = err_from_is_err_and c.from_residual-in_err-session.result c.from_residual-in_err-session.ensures.1 in
    rw (p.1, p.2) (late_next c.args.settings.now c.in_ok-next.next _ c.in_ok-next.ensures.made c.in_err-session.ensures.late)

pub returns-in_err-session-clause-crash : goal.returns-in_err-session-clause-crash
returns-in_err-session-clause-crash g c = may_by_same {images = g.D.Disk.meaning.images} (λ disk image left. g.met.D.Disk.told disk image left) c.args.settings.now c.args.limit c.kept_on.ensures.crash

pub returns-in_err-session-clause-standing : goal.returns-in_err-session-clause-standing
returns-in_err-session-clause-standing g c = same_stands {images = g.D.Disk.meaning.images} (λ from image early left. g.met.D.Disk.counts_now c.args.disk.now from image early left) c.kept_on.ensures.crash

pub returns-in_err-next-clause-crash : goal.returns-in_err-next-clause-crash
returns-in_err-next-clause-crash g c = may_by_same {images = g.D.Disk.meaning.images} (λ disk image left. g.met.D.Disk.told disk image left) c.args.settings.now c.args.limit (passes_none c.args.disk.now)

pub returns-in_err-next-clause-standing : goal.returns-in_err-next-clause-standing
returns-in_err-next-clause-standing g c = same_stands {images = g.D.Disk.meaning.images} (λ from image early left. g.met.D.Disk.counts_now c.args.disk.now from image early left) (passes_none c.args.disk.now)

pub returns-clause-adopted : goal.returns-clause-adopted
returns-clause-adopted g c =
    let images = g.D.Disk.meaning.images in
    let Q : ℕ → Type 0 = λ n. IfOk c.take_up.result (λ adopted. EachLeft images c.take_up.new.disk (IsAdopted c.args.settings.now n adopted (images.seen c.kept_on.new.disk))) in
    let P : Image DiskFile → Type 0 = λ seen. IfOk c.take_up.result (λ adopted. EachLeft images c.take_up.new.disk (IsAdopted c.args.settings.now c.args.limit adopted seen)) in
    subst P c.kept_on.ensures.seen (subst Q c.in_ok-session.ensures.limit c.take_up.ensures.adopted)

pub returns-clause-of_next : goal.returns-clause-of_next
returns-clause-of_next g c =
    IfErr-weaker c.take_up.result _ _ (λ fault late. late_next c.args.settings.now c.in_ok-next.next fault c.in_ok-next.ensures.made late) c.take_up.ensures.late

pub returns-clause-crash : goal.returns-clause-crash
returns-clause-crash g c =
    let images = g.D.Disk.meaning.images in
    let Q : ℕ → Type 0 = λ n. Passes images (MayAdopt c.args.settings.now n) c.kept_on.new.disk c.take_up.new.disk in
    may_after_same {images = images} (λ disk image left. g.met.D.Disk.told disk image left) c.args.settings.now c.args.limit c.kept_on.ensures.crash (subst Q c.in_ok-session.ensures.limit c.take_up.ensures.crash)

pub returns-clause-standing : goal.returns-clause-standing
returns-clause-standing g c =
    let text = c.args.settings.now in
    let next = c.in_ok-next.next in
    let images = g.D.Disk.meaning.images in
    let Q : ℕ → Type 0 = λ n. Passes images (MayAdopt text n) c.kept_on.new.disk c.take_up.new.disk in
    adopting_stands c.settings_give_one_set_of_rules.ensures.rules text (rules_of text next) (next, c.in_ok-next.ensures.made, refl)
    (c.a_pipeline_is_rules.ensures text (c.settings_keep_limits.ensures _ _ c.in_ok-next.ensures.made.said))
    {images = images} (λ from image early left. g.met.D.Disk.counts_now c.args.disk.now from image early left) c.args.limit
    (may_after_same {images = images} (λ disk image left. g.met.D.Disk.told disk image left) text c.args.limit c.kept_on.ensures.crash (subst Q c.in_ok-session.ensures.limit c.take_up.ensures.crash))

pub returns-clause-terms : goal.returns-clause-terms
returns-clause-terms g c = keeps_terms_then c.kept_on.ensures.calls.terms c.take_up.ensures.terms

pub returns-clause-of_kept : goal.returns-clause-of_kept
returns-clause-of_kept g c =
    let images = g.D.Disk.meaning.images in
    let session = c.in_ok-session.session in
    IfErr-weaker c.take_up.result _ _
    (λ fault refused tells of_kept.
    let P : ℕ → Type 0 = λ n. IsUnadopted c.args.settings.now n (images.seen c.args.disk.now) fault in
    let Q : Image DiskFile → Type 0 = λ seen. IsUnadopted c.args.settings.now (limit_of session) seen fault in
    subst P c.in_ok-session.ensures.limit (subst Q c.kept_on.ensures.seen (refused (c.kept_on.ensures.calls.terms.tells ∙ tells) of_kept)))
    c.take_up.ensures.of_kept

pub returns-in_err-next-clause-in_force : goal.returns-in_err-next-clause-in_force
returns-in_err-next-clause-in_force g c = λ before tells has same. calls_none 7 c.args.disk.now

pub returns-in_err-session-clause-in_force : goal.returns-in_err-session-clause-in_force
returns-in_err-session-clause-in_force g c = λ before tells has same. calls_more 3 7 (omega arith) c.kept_on.ensures.calls

pub returns-clause-in_force : goal.returns-clause-in_force
returns-clause-in_force g c = λ before tells has same.
    let session = c.in_ok-session.session in
    let image = g.D.Disk.meaning.images.seen c.args.disk.now in
    let own = has_saved session (own_journal session c.in_ok-session.ensures.stood) image (c.in_ok-session.ensures.goes_on tells).memory in
    let one : checkpoint_of_session session ≡ before = same_saved image before (checkpoint_of_session session) has own in
    calls_then 3 4 7 (omega arith) c.kept_on.ensures.calls (c.take_up.ensures.in_force (ap (λ (s : Checkpoint). last_text s.eras) one ∙ same))
