use Rattle.std.proofs.Common.{◌≡◌, length, Some, false, true, refl, arith}
use Rattle.std.proofs.lemmas.Option.{slice_get_read}
use Rattle.std.specs.Prelude.{slice_get}
use Rattle.pipeline.specs.AsRules.{rules_of}
use Rattle.pipeline.proofs.ForeignRows.{least_foreign, fine_more, all_fine}
use Rattle.pipeline.proofs.Pipeline.first_foreign.Goals as goal

pub returns-then-not-branch-clause-foreign : goal.returns-then-not-branch-clause-foreign
returns-then-not-branch-clause-foreign c text =
    let rows = c.args.rows.now in
    let place = c.loop-row.row-index in
    let saved = c.row-item.result in
    let there : slice_get rows place ≡ Some saved = slice_get_read rows (length rows) place saved refl c.loop-row-test.true c.row-item.is in
    let is = c.in_ok-has_state.ensures text in
    let id = c.from.ensures in
    let foreign : (rules_of text c.args.self.now).is_state saved.state ≡ false = cc (is, c.if-not-branch.true) in
    rw id (least_foreign (rules_of text c.args.self.now) rows place saved c.requires there foreign (c.loop-row.invariant text))

pub loop-row-preserved : goal.loop-row-preserved
loop-row-preserved c text =
    let rows = c.args.rows.now in
    let place = c.loop-row.row-index in
    let saved = c.row-item.result in
    let there : slice_get rows place ≡ Some saved = slice_get_read rows (length rows) place saved refl c.loop-row-test.true c.row-item.is in
    let is = c.in_ok-has_state.ensures text in
    let good : (rules_of text c.args.self.now).is_state saved.state ≡ true = cc (is, c.if-not-branch.false) in
    fine_more (rules_of text c.args.self.now) rows place saved (c.loop-row.invariant text) there good

pub returns-clause-fine : goal.returns-clause-fine
returns-clause-fine c text =
    all_fine (rules_of text c.args.self.now) c.args.rows.now c.loop-row.row-index (omega arith) (c.loop-row.invariant text)
