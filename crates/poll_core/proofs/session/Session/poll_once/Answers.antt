use Rattle.std.proofs.Common.{◌≡◌, length, Err, Option, refl, sym, ap, subst, ◌∙◌, arith, inl, inr}
use Rattle.std.proofs.lemmas.Result.{err_from_is_err_and}
use Rattle.checkpoint_store.specs.Limits.{newest}
use Rattle.checkpoint_store.specs.Rules.{beside_of}
use Rattle.file_pass.specs.Moment.{meanings, moment}
use Rattle.file_pass.specs.Sane.{AreSaneRows}
use Rattle.file_pass.specs.declared.taking.Taking.{Taking}
use Rattle.checkpoint_journal.specs.declared.journal.Journal.{Journal}
use Rattle.poll_core.proofs.PassLemmas.{cause_of_pass, cause_of_poll, full_of_pass, not_err, worn_of_pass}
use Rattle.poll_core.proofs.PollDisk.{stays_pass}
use Rattle.poll_core.proofs.PollFull.{overflows_by}
use Rattle.poll_core.proofs.PollRows.{later_by, poll_by, sane_rows, set_up, times_of}
use Rattle.poll_core.proofs.PollWhole.{early, first_of, has_to_keep, lawful_own, may_gain, next_session, polled, awaits_own, slots_after}
use Rattle.poll_core.proofs.session.Session.poll_once.Goals as goal
use Rattle.poll_core.specs.SessionParts.{poll_of_session}
use Rattle.poll_core.specs.declared.poll_fault.PollFault.TheVariants.{OutputFull, Worn}
use Rattle.poll_core.specs.declared.session.Session.{Session}
use Rattle.poll_core.specs.declared.summary.Summary.{Summary}
use Rattle.slot_store.proofs.OnlyReading.{keeps_terms_then}
use Rattle.standing.specs.Poll.{Poll}
use Rattle.tree_walk.specs.declared.walk.Walk.{Walk}

pub pass-requires-clause-setup : goal.pass-requires-clause-setup
pass-requires-clause-setup g c = (c.requires.limits, omega (arith, c.max.ensures, c.requires.session.limit, c.requires.session.lawful.output_length))

pub pass-requires-clause-rows : goal.pass-requires-clause-rows
pass-requires-clause-rows g c =
    let session = c.args.self in
    let same = poll_by session _ _ _ _ c.last_text.ensures (ap length c.as_slice.ensures) (first_of session.journal c.is_none.result c.is_none.ensures) c.stamp_of-stamp.ensures in
    subst (λ (poll : Poll). AreSaneRows poll session.kept session.tracker) (sym same)
    (sane_rows (poll_of_session session) (beside_of newest session.eras session.kept) session.tracker refl refl c.requires.session.lawful.rows c.requires.session.states)

pub pass-requires-clause-era : goal.pass-requires-clause-era
pass-requires-clause-era g c = omega (arith, c.requires.session.lawful.eras.some, ap length c.as_slice.ensures)

pub pass-requires-clause-few : goal.pass-requires-clause-few
pass-requires-clause-few g c = omega (arith, c.requires.session.lawful.next_id.1)

pub pass-requires-clause-within : goal.pass-requires-clause-within
pass-requires-clause-within g c = omega (arith, c.max.ensures)

pub pass-requires-clause-ends : goal.pass-requires-clause-ends
pass-requires-clause-ends g c = λ tells. (c.requires.stands.each.each _ (g.met.D.Disk.shown c.args.disk.now tells)).output

-- ---- the pass failed

pub returns-in_err-walk-clause-session : goal.returns-in_err-walk-clause-session
returns-in_err-walk-clause-session g c =
    let p = err_from_is_err_and c.from_residual.result c.from_residual.ensures.1 in
    rw p.1 tt

pub returns-in_err-walk-clause-ok : goal.returns-in_err-walk-clause-ok
returns-in_err-walk-clause-ok g c =
    let p = err_from_is_err_and c.from_residual.result c.from_residual.ensures.1 in
    rw p.1 tt

pub returns-in_err-walk-clause-crash : goal.returns-in_err-walk-clause-crash
returns-in_err-walk-clause-crash g c = inl (stays_pass g.D.Disk.meaning c.args.self c.args.disk.now c.pass.new.disk c.requires.stands c.pass.ensures.disk)

pub returns-in_err-walk-clause-early : goal.returns-in_err-walk-clause-early
returns-in_err-walk-clause-early g c = λ fewer. stays_pass g.D.Disk.meaning c.args.self c.args.disk.now c.pass.new.disk c.requires.stands c.pass.ensures.disk

pub returns-in_err-walk-clause-full : goal.returns-in_err-walk-clause-full
returns-in_err-walk-clause-full g c = λ size is.
    let session = c.args.self in
    let same = poll_by session _ _ _ _ c.last_text.ensures (ap length c.as_slice.ensures) (first_of session.journal c.is_none.result c.is_none.ensures) c.stamp_of-stamp.ensures in
    overflows_by g.T.Tree.meaning session _ size (moment c.args.tree.now c.args.disk.now) c.pass.new.tree (c.in_err-walk.ensures.full size (ap Err (full_of_pass c.in_err-walk.field-0.0 size (rw is at c.from_residual.ensures.1))))
    same c.max.ensures (λ mark. c.requires.rules.lines.not_empty mark)

pub returns-in_err-walk-clause-worn : goal.returns-in_err-walk-clause-worn
returns-in_err-walk-clause-worn g c = λ sequence is. absurd (worn_of_pass c.in_err-walk.field-0.0 sequence (rw is at c.from_residual.ensures.1))

pub returns-in_err-walk-clause-tree : goal.returns-in_err-walk-clause-tree
returns-in_err-walk-clause-tree g c = c.pass.ensures.tree

pub returns-in_err-walk-clause-cause : goal.returns-in_err-walk-clause-cause
returns-in_err-walk-clause-cause g c =
    let p = err_from_is_err_and c.from_residual.result c.from_residual.ensures.1 in
    rw (p.1, p.2) (cause_of_pass (Walk × Taking) (Session × Summary) c.in_err-walk.field-0.0 _ _ c.in_err-walk.ensures.cause)

pub returns-in_err-walk-clause-terms : goal.returns-in_err-walk-clause-terms
returns-in_err-walk-clause-terms g c = c.pass.ensures.disk.terms

-- ---- what is kept

pub keep-requires-clause-lawful : goal.keep-requires-clause-lawful
keep-requires-clause-lawful g c =
    let session = c.args.self in
    let same = poll_by session _ _ _ _ c.last_text.ensures (ap length c.as_slice.ensures) (first_of session.journal c.is_none.result c.is_none.ensures) c.stamp_of-stamp.ensures in
    let times = times_of session _ _ _ c.stamp_of-stamp.ensures c.kept_time.ensures in
    lawful_own (meanings g.T.Tree.meaning g.D.Disk.meaning) session c.requires.session c.requires.rules _ c.in_ok-walk.walk c.in_ok-walk.taking (moment c.args.tree.now c.args.disk.now) (moment c.pass.new.tree c.pass.new.disk) c.in_ok-walk.ensures.ok _ (set_up session _ _ c.requires.session same c.max.ensures (later_by session _ _ c.requires.session times)) times c.max.ensures c.requires.stands c.pass.ensures.disk

pub keep-requires-clause-short : goal.keep-requires-clause-short
keep-requires-clause-short g c =
    c.requires.session.journal

pub keep-requires-clause-awaits : goal.keep-requires-clause-awaits
keep-requires-clause-awaits g c =
    let session = c.args.self in
    let same = poll_by session _ _ _ _ c.last_text.ensures (ap length c.as_slice.ensures) (first_of session.journal c.is_none.result c.is_none.ensures) c.stamp_of-stamp.ensures in
    let times = times_of session _ _ _ c.stamp_of-stamp.ensures c.kept_time.ensures in
    awaits_own (meanings g.T.Tree.meaning g.D.Disk.meaning) session c.requires.session c.requires.rules _ c.in_ok-walk.walk c.in_ok-walk.taking (moment c.args.tree.now c.args.disk.now) (moment c.pass.new.tree c.pass.new.disk) c.in_ok-walk.ensures.ok _ (set_up session _ _ c.requires.session same c.max.ensures (later_by session _ _ c.requires.session times)) times c.max.ensures c.requires.stands c.pass.ensures.disk

pub keep-requires-clause-slots : goal.keep-requires-clause-slots
keep-requires-clause-slots g c =
    let session = c.args.self in
    let same = poll_by session _ _ _ _ c.last_text.ensures (ap length c.as_slice.ensures) (first_of session.journal c.is_none.result c.is_none.ensures) c.stamp_of-stamp.ensures in
    let times = times_of session _ _ _ c.stamp_of-stamp.ensures c.kept_time.ensures in
    slots_after (meanings g.T.Tree.meaning g.D.Disk.meaning) session c.requires.session c.requires.rules _ c.in_ok-walk.walk c.in_ok-walk.taking (moment c.args.tree.now c.args.disk.now) (moment c.pass.new.tree c.pass.new.disk) c.in_ok-walk.ensures.ok _ (set_up session _ _ c.requires.session same c.max.ensures (later_by session _ _ c.requires.session times)) times c.max.ensures c.requires.stands c.pass.ensures.disk

-- ---- keeping failed

pub returns-in_err-journal-clause-session : goal.returns-in_err-journal-clause-session
returns-in_err-journal-clause-session g c =
    let p = err_from_is_err_and c.from_residual-in_err-journal.result c.from_residual-in_err-journal.ensures.1 in
    rw p.1 tt

pub returns-in_err-journal-clause-ok : goal.returns-in_err-journal-clause-ok
returns-in_err-journal-clause-ok g c =
    let p = err_from_is_err_and c.from_residual-in_err-journal.result c.from_residual-in_err-journal.ensures.1 in
    rw p.1 tt

pub returns-in_err-journal-clause-crash : goal.returns-in_err-journal-clause-crash
returns-in_err-journal-clause-crash g c =
    let session = c.args.self in
    let same = poll_by session _ _ _ _ c.last_text.ensures (ap length c.as_slice.ensures) (first_of session.journal c.is_none.result c.is_none.ensures) c.stamp_of-stamp.ensures in
    let times = times_of session _ _ _ c.stamp_of-stamp.ensures c.kept_time.ensures in
    inr (may_gain (meanings g.T.Tree.meaning g.D.Disk.meaning) session c.requires.session c.requires.rules _ c.in_ok-walk.walk c.in_ok-walk.taking (moment c.args.tree.now c.args.disk.now) (moment c.pass.new.tree c.pass.new.disk) c.in_ok-walk.ensures.ok _ (set_up session _ _ c.requires.session same c.max.ensures (later_by session _ _ c.requires.session times)) times c.max.ensures c.requires.stands c.pass.ensures.disk (λ image left. g.met.D.Disk.told c.args.disk.now image left) (λ tells. g.met.D.Disk.shown c.args.disk.now tells) c.keep.new.disk c.keep.ensures.crash c.keep.ensures.costs)

pub returns-in_err-journal-clause-early : goal.returns-in_err-journal-clause-early
returns-in_err-journal-clause-early g c =
    let session = c.args.self in
    let same = poll_by session _ _ _ _ c.last_text.ensures (ap length c.as_slice.ensures) (first_of session.journal c.is_none.result c.is_none.ensures) c.stamp_of-stamp.ensures in
    let times = times_of session _ _ _ c.stamp_of-stamp.ensures c.kept_time.ensures in
    early (meanings g.T.Tree.meaning g.D.Disk.meaning) session c.requires.session c.requires.rules _ c.in_ok-walk.walk c.in_ok-walk.taking (moment c.args.tree.now c.args.disk.now) (moment c.pass.new.tree c.pass.new.disk) c.in_ok-walk.ensures.ok _ (set_up session _ _ c.requires.session same c.max.ensures (later_by session _ _ c.requires.session times)) times c.max.ensures c.requires.stands c.pass.ensures.disk (λ image left. g.met.D.Disk.told c.args.disk.now image left) (λ tells. g.met.D.Disk.shown c.args.disk.now tells) c.keep.new.disk c.keep.ensures.crash c.keep.ensures.early

pub returns-in_err-journal-clause-full : goal.returns-in_err-journal-clause-full
returns-in_err-journal-clause-full g c = λ size is.
    let same : OutputFull size ≡ c.in_err-journal.field-0.0 = rw is at c.from_residual-in_err-journal.ensures.1 in
    absurd (c.in_err-journal.ensures.not_full size (ap Err (sym same)))

pub returns-in_err-journal-clause-worn : goal.returns-in_err-journal-clause-worn
returns-in_err-journal-clause-worn g c = λ sequence is.
    let fault : Worn sequence ≡ c.in_err-journal.field-0.0 = rw is at c.from_residual-in_err-journal.ensures.1 in
    let worn = c.in_err-journal.ensures.worn sequence (ap Err (sym fault)) in
    let session = c.args.self in
    let same = poll_by session _ _ _ _ c.last_text.ensures (ap length c.as_slice.ensures) (first_of session.journal c.is_none.result c.is_none.ensures) c.stamp_of-stamp.ensures in
    let times = times_of session _ _ _ c.stamp_of-stamp.ensures c.kept_time.ensures in
    (worn.0, worn.1, has_to_keep (meanings g.T.Tree.meaning g.D.Disk.meaning) session c.requires.session c.requires.rules _ c.in_ok-walk.walk c.in_ok-walk.taking (moment c.args.tree.now c.args.disk.now) (moment c.pass.new.tree c.pass.new.disk) c.in_ok-walk.ensures.ok _ (set_up session _ _ c.requires.session same c.max.ensures (later_by session _ _ c.requires.session times)) times c.max.ensures c.requires.stands c.pass.ensures.disk (λ image left. g.met.D.Disk.told c.args.disk.now image left) (λ tells. g.met.D.Disk.shown c.args.disk.now tells) worn.2)

pub returns-in_err-journal-clause-tree : goal.returns-in_err-journal-clause-tree
returns-in_err-journal-clause-tree g c =
    c.pass.ensures.tree

pub returns-in_err-journal-clause-cause : goal.returns-in_err-journal-clause-cause
returns-in_err-journal-clause-cause g c =
    let p = err_from_is_err_and c.from_residual-in_err-journal.result c.from_residual-in_err-journal.ensures.1 in
    rw (p.1, p.2) (cause_of_poll (Option Journal) (Session × Summary) c.in_err-journal.field-0.0 _ _ _ c.in_ok-walk.ensures.cause c.in_err-journal.ensures.cause)

pub returns-in_err-journal-clause-terms : goal.returns-in_err-journal-clause-terms
returns-in_err-journal-clause-terms g c =
    keeps_terms_then c.pass.ensures.disk.terms c.keep.ensures.terms

-- ---- all went through

pub same-eras : goal.same-eras
same-eras g c =
    refl

pub returns-clause-session : goal.returns-clause-session
returns-clause-session g c =
    let session = c.args.self in
    let same = poll_by session _ _ _ _ c.last_text.ensures (ap length c.as_slice.ensures) (first_of session.journal c.is_none.result c.is_none.ensures) c.stamp_of-stamp.ensures in
    let times = times_of session _ _ _ c.stamp_of-stamp.ensures c.kept_time.ensures in
    next_session (meanings g.T.Tree.meaning g.D.Disk.meaning) session c.requires.session c.requires.rules _ c.in_ok-walk.walk c.in_ok-walk.taking (moment c.args.tree.now c.args.disk.now) (moment c.pass.new.tree c.pass.new.disk) c.in_ok-walk.ensures.ok _ (set_up session _ _ c.requires.session same c.max.ensures (later_by session _ _ c.requires.session times)) times c.max.ensures c.requires.stands c.pass.ensures.disk (λ image left. g.met.D.Disk.told c.args.disk.now image left) (λ tells. g.met.D.Disk.shown c.args.disk.now tells) c.in_ok-journal.journal c.keep.new.disk c.in_ok-journal.ensures.kept

pub returns-clause-ok : goal.returns-clause-ok
returns-clause-ok g c =
    let session = c.args.self in
    let same = poll_by session _ _ _ _ c.last_text.ensures (ap length c.as_slice.ensures) (first_of session.journal c.is_none.result c.is_none.ensures) c.stamp_of-stamp.ensures in
    let times = times_of session _ _ _ c.stamp_of-stamp.ensures c.kept_time.ensures in
    polled (meanings g.T.Tree.meaning g.D.Disk.meaning) session c.requires.session c.requires.rules _ c.in_ok-walk.walk c.in_ok-walk.taking (moment c.args.tree.now c.args.disk.now) (moment c.pass.new.tree c.pass.new.disk) c.in_ok-walk.ensures.ok _ (set_up session _ _ c.requires.session same c.max.ensures (later_by session _ _ c.requires.session times)) times c.max.ensures c.requires.stands c.pass.ensures.disk (λ image left. g.met.D.Disk.told c.args.disk.now image left) (λ tells. g.met.D.Disk.shown c.args.disk.now tells) c.in_ok-journal.journal c.keep.new.disk c.of-summary.result
    (λ image left. sym (c.keep.ensures.terms.tells ∙ c.pass.ensures.disk.terms.tells) ∙ g.met.D.Disk.told c.keep.new.disk image left) (g.met.T.Tree.lawful c.pass.new.tree) c.of-summary.ensures c.in_ok-journal.ensures.kept c.keep.ensures.costs

pub returns-clause-crash : goal.returns-clause-crash
returns-clause-crash g c =
    let session = c.args.self in
    let same = poll_by session _ _ _ _ c.last_text.ensures (ap length c.as_slice.ensures) (first_of session.journal c.is_none.result c.is_none.ensures) c.stamp_of-stamp.ensures in
    let times = times_of session _ _ _ c.stamp_of-stamp.ensures c.kept_time.ensures in
    inr (may_gain (meanings g.T.Tree.meaning g.D.Disk.meaning) session c.requires.session c.requires.rules _ c.in_ok-walk.walk c.in_ok-walk.taking (moment c.args.tree.now c.args.disk.now) (moment c.pass.new.tree c.pass.new.disk) c.in_ok-walk.ensures.ok _ (set_up session _ _ c.requires.session same c.max.ensures (later_by session _ _ c.requires.session times)) times c.max.ensures c.requires.stands c.pass.ensures.disk (λ image left. g.met.D.Disk.told c.args.disk.now image left) (λ tells. g.met.D.Disk.shown c.args.disk.now tells) c.keep.new.disk c.keep.ensures.crash c.keep.ensures.costs)

pub returns-clause-early : goal.returns-clause-early
returns-clause-early g c =
    let session = c.args.self in
    let same = poll_by session _ _ _ _ c.last_text.ensures (ap length c.as_slice.ensures) (first_of session.journal c.is_none.result c.is_none.ensures) c.stamp_of-stamp.ensures in
    let times = times_of session _ _ _ c.stamp_of-stamp.ensures c.kept_time.ensures in
    early (meanings g.T.Tree.meaning g.D.Disk.meaning) session c.requires.session c.requires.rules _ c.in_ok-walk.walk c.in_ok-walk.taking (moment c.args.tree.now c.args.disk.now) (moment c.pass.new.tree c.pass.new.disk) c.in_ok-walk.ensures.ok _ (set_up session _ _ c.requires.session same c.max.ensures (later_by session _ _ c.requires.session times)) times c.max.ensures c.requires.stands c.pass.ensures.disk (λ image left. g.met.D.Disk.told c.args.disk.now image left) (λ tells. g.met.D.Disk.shown c.args.disk.now tells) c.keep.new.disk c.keep.ensures.crash c.keep.ensures.early

pub returns-clause-full : goal.returns-clause-full
returns-clause-full g c =
    λ size is. absurd (not_err _ _ is)

pub returns-clause-worn : goal.returns-clause-worn
returns-clause-worn g c =
    λ sequence is. absurd (not_err _ _ is)

pub returns-clause-tree : goal.returns-clause-tree
returns-clause-tree g c =
    c.pass.ensures.tree

pub returns-clause-cause : goal.returns-clause-cause
returns-clause-cause g c =
    c.in_ok-journal.ensures.cause ∙ c.in_ok-walk.ensures.cause

pub returns-clause-terms : goal.returns-clause-terms
returns-clause-terms g c =
    keeps_terms_then c.pass.ensures.disk.terms c.keep.ensures.terms
