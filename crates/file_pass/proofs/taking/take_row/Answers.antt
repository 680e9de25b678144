use Rattle.std.proofs.Common.{◌≡◌, ◌≤◌, ◌^◌, ◌-◌, ◌∙◌, List, length, sym, ap, subst, arith, Err}
use Rattle.std.proofs.lemmas.List.{length-set}
use Rattle.std.specs.Prelude.{slice_get}
use Rattle.standing.specs.AreRules.{AreRules}
use Rattle.file_tracker.specs.declared.row.Row.{Row}
use Rattle.file_pass.specs.Fed.{rules_in}
use Rattle.file_pass.specs.Moment.{feeding_at, meanings, moment, rows_at}
use Rattle.file_pass.specs.Inner.Noted.{noted_row}
use Rattle.file_pass.specs.declared.ending.OpenFile.{OpenFile}
use Rattle.file_pass.specs.declared.fault.PassFault.TheVariants.{OutputFull}
use Rattle.file_pass.proofs.Flagging.{growth_none, growth_then, growth_look, looked_twice}
use Rattle.file_pass.proofs.Joining.{tree_wider}
use Rattle.file_pass.proofs.Listing.{get_set}
use Rattle.file_pass.proofs.RowLemmas.{takes_shorter, row_full, takes_on_row, may_note, note_lines, note_look, sane_on_row}
use Rattle.file_pass.proofs.taking.take_row.Goals as goal

pub returns-then-file-row-clause-ok : goal.returns-then-file-row-clause-ok
returns-then-file-row-clause-ok g c =
    takes_shorter (meanings g.T.Tree.meaning g.D.Disk.meaning) c.args.setup.now c.args.at c.row-row.result.now (rows_at c.args.taking.now (moment c.args.tree.now c.args.disk.now)) c.row-row.ensures c.if-file-row.true

pub returns-then-file-row-clause-flags : goal.returns-then-file-row-clause-flags
returns-then-file-row-clause-flags g c = growth_none (rules_in c.args.setup.now) c.args.taking.now.tracker c.args.taking.now.changed.items

pub feeding_of-requires : goal.feeding_of-requires
feeding_of-requires g c = (c.requires.sane.rows c.args.at.place c.row-row.result.now c.row-row.ensures).state

pub returns-in_err-ending-clause-full : goal.returns-in_err-ending-clause-full
returns-in_err-ending-clause-full g c = λ size is.
    let row : Row = c.row-row.result.now in
    let laws : AreRules (rules_in c.args.setup.now) = c.a_pipeline_is_rules.ensures c.args.setup.now.settings.now c.requires.setup.0 in
    let same : OutputFull size ≡ c.in_err-ending.field-0.0 = rw is at c.from_residual-in_err-ending.ensures.1 in
    row_full (meanings g.T.Tree.meaning g.D.Disk.meaning) c.args.setup.now c.args.at row (rows_at c.args.taking.now (moment c.args.tree.now c.args.disk.now)) c.row-row.ensures laws (c.requires.sane.rows c.args.at.place row c.row-row.ensures).state
    c.in_ok-feeding.feeding c.in_ok-feeding.ensures.file c.in_ok-feeding.ensures.row c.if-file-row.false size c.feed_file.new.tree (c.in_err-ending.ensures.full size (ap Err (sym same)))

pub returns-in_err-ending-clause-tree : goal.returns-in_err-ending-clause-tree
returns-in_err-ending-clause-tree g c = tree_wider g.T.Tree.meaning _ _ _ c.args.tree.now c.feed_file.new.tree c.requires.room.1 c.feed_file.ensures.tree

pub note_progress-requires-clause-noted : goal.note_progress-requires-clause-noted
note_progress-requires-clause-noted g c =
    let row : Row = c.row-row.result.now in
    let laws : AreRules (rules_in c.args.setup.now) = c.a_pipeline_is_rules.ensures c.args.setup.now.settings.now c.requires.setup.0 in
    may_note (meanings g.T.Tree.meaning g.D.Disk.meaning) c.args.setup.now laws c.args.at.place row c.args.taking.now c.args.taking.now c.requires.sane c.row-row.ensures
    c.in_ok-feeding.feeding (subst (λ (f : OpenFile). f.size ≤ 2 ^ 62) (sym c.in_ok-feeding.ensures.file) c.requires.size) c.in_ok-feeding.ensures.row (moment c.args.tree.now c.args.disk.now) c.in_ok-ending.ending (feeding_at c.feed_file.new.feeding c.feed_file.new.end (moment c.feed_file.new.tree c.feed_file.new.disk)) c.in_ok-ending.ensures.ok

pub note-requires : goal.note-requires
note-requires g c =
    let row : Row = c.row-row.result.now in
    omega (arith, c.requires.in_range, ap (λ (rows : List Row). length rows) (c.in_ok-note_progress.ensures.row row c.row-row.ensures), length-set c.args.taking.now.tracker c.args.at.place (noted_row c.feed_file.new.feeding row))

pub returns-clause-ok : goal.returns-clause-ok
returns-clause-ok g c =
    let row : Row = c.row-row.result.now in
    let laws : AreRules (rules_in c.args.setup.now) = c.a_pipeline_is_rules.ensures c.args.setup.now.settings.now c.requires.setup.0 in
    let on = c.in_ok-ending.ensures.ok in
    let after = c.feed_file.new.feeding in
    let rows = c.args.taking.now.tracker in
    let noted = looked_twice rows c.note_progress.new.taking.tracker _ c.args.at.place row (noted_row after row) after.idle.seen after.idle.quiet c.row-row.ensures (c.in_ok-note_progress.ensures.row row c.row-row.ensures) c.note.ensures in
    takes_on_row (meanings g.T.Tree.meaning g.D.Disk.meaning) c.args.setup.now c.args.at row (rows_at c.args.taking.now (moment c.args.tree.now c.args.disk.now)) c.row-row.ensures laws (c.requires.sane.rows c.args.at.place row c.row-row.ensures).state
    c.in_ok-feeding.feeding c.in_ok-feeding.ensures.file c.in_ok-feeding.ensures.row c.if-file-row.false c.in_ok-ending.ending (feeding_at c.feed_file.new.feeding c.feed_file.new.end (moment c.feed_file.new.tree c.feed_file.new.disk)) c.has_more.result (after.state.lines - row.lines) _ _ on c.note_progress.ensures.end
    c.has_more.ensures.whole c.has_more.ensures.not_whole
    (note_lines (meanings g.T.Tree.meaning g.D.Disk.meaning) c.args.setup.now laws c.args.at.place row c.args.taking.now c.args.taking.now c.requires.sane c.row-row.ensures
    c.in_ok-feeding.feeding (subst (λ (f : OpenFile). f.size ≤ 2 ^ 62) (sym c.in_ok-feeding.ensures.file) c.requires.size) c.in_ok-feeding.ensures.row (moment c.args.tree.now c.args.disk.now) c.in_ok-ending.ending (feeding_at c.feed_file.new.feeding c.feed_file.new.end (moment c.feed_file.new.tree c.feed_file.new.disk)) c.in_ok-ending.ensures.ok)
    noted c.feed_file.ensures.tree.taken_then

pub returns-clause-sane : goal.returns-clause-sane
returns-clause-sane g c =
    let row : Row = c.row-row.result.now in
    let laws : AreRules (rules_in c.args.setup.now) = c.a_pipeline_is_rules.ensures c.args.setup.now.settings.now c.requires.setup.0 in
    let after = c.feed_file.new.feeding in
    let noted = looked_twice c.args.taking.now.tracker c.note_progress.new.taking.tracker _ c.args.at.place row (noted_row after row) after.idle.seen after.idle.quiet c.row-row.ensures (c.in_ok-note_progress.ensures.row row c.row-row.ensures) c.note.ensures in
    sane_on_row (meanings g.T.Tree.meaning g.D.Disk.meaning) c.args.setup.now laws c.args.at.place row c.args.taking.now _ c.requires.sane c.row-row.ensures
    c.in_ok-feeding.feeding (subst (λ (f : OpenFile). f.size ≤ 2 ^ 62) (sym c.in_ok-feeding.ensures.file) c.requires.size) c.in_ok-feeding.ensures.row (moment c.args.tree.now c.args.disk.now) c.in_ok-ending.ending (feeding_at c.feed_file.new.feeding c.feed_file.new.end (moment c.feed_file.new.tree c.feed_file.new.disk)) c.in_ok-ending.ensures.ok
    c.in_ok-ending.ensures.sane (c.in_ok-note_progress.ensures.short row c.row-row.ensures) noted c.note_progress.ensures.long c.note_progress.ensures.end c.note_progress.ensures.counts

pub returns-clause-flags : goal.returns-clause-flags
returns-clause-flags g c =
    let row : Row = c.row-row.result.now in
    let laws : AreRules (rules_in c.args.setup.now) = c.a_pipeline_is_rules.ensures c.args.setup.now.settings.now c.requires.setup.0 in
    let rules = rules_in c.args.setup.now in
    let after = c.feed_file.new.feeding in
    let rows = c.args.taking.now.tracker in
    let mid = c.note_progress.new.taking in
    let there = ap (λ (l : List Row). slice_get l c.args.at.place) (c.in_ok-note_progress.ensures.row row c.row-row.ensures) ∙ get_set rows c.args.at.place row (noted_row after row) c.row-row.ensures in
    growth_then rules rows mid.tracker _ c.args.taking.now.changed.items mid.changed.items mid.changed.items c.in_ok-note_progress.ensures.flags
    (rw (c.note.ensures (noted_row after row) there) (growth_look rules mid.tracker mid.changed.items c.args.at.place (noted_row after row) after.idle.seen after.idle.quiet there
    (note_look (meanings g.T.Tree.meaning g.D.Disk.meaning) c.args.setup.now laws c.args.at.place row c.args.taking.now c.args.taking.now c.requires.sane c.row-row.ensures
    c.in_ok-feeding.feeding (subst (λ (f : OpenFile). f.size ≤ 2 ^ 62) (sym c.in_ok-feeding.ensures.file) c.requires.size) c.in_ok-feeding.ensures.row (moment c.args.tree.now c.args.disk.now) c.in_ok-ending.ending (feeding_at c.feed_file.new.feeding c.feed_file.new.end (moment c.feed_file.new.tree c.feed_file.new.disk)) c.in_ok-ending.ensures.ok)))

pub returns-clause-tree : goal.returns-clause-tree
returns-clause-tree g c = tree_wider g.T.Tree.meaning _ _ _ c.args.tree.now c.feed_file.new.tree c.requires.room.1 c.feed_file.ensures.tree

pub returns-in_err-note_progress-clause-tree : goal.returns-in_err-note_progress-clause-tree
returns-in_err-note_progress-clause-tree g c = tree_wider g.T.Tree.meaning _ _ _ c.args.tree.now c.feed_file.new.tree c.requires.room.1 c.feed_file.ensures.tree

pub overflow_sub-result : goal.overflow_sub-result
overflow_sub-result g c =
    let row : Row = c.row-row.result.now in
    let laws : AreRules (rules_in c.args.setup.now) = c.a_pipeline_is_rules.ensures c.args.setup.now.settings.now c.requires.setup.0 in
    omega (
      arith,
      note_lines (meanings g.T.Tree.meaning g.D.Disk.meaning) c.args.setup.now laws c.args.at.place row c.args.taking.now c.args.taking.now c.requires.sane c.row-row.ensures
          c.in_ok-feeding.feeding (subst (λ (f : OpenFile). f.size ≤ 2 ^ 62) (sym c.in_ok-feeding.ensures.file) c.requires.size) c.in_ok-feeding.ensures.row (moment c.args.tree.now c.args.disk.now) c.in_ok-ending.ending (feeding_at c.feed_file.new.feeding c.feed_file.new.end (moment c.feed_file.new.tree c.feed_file.new.disk)) c.in_ok-ending.ensures.ok,
    )
