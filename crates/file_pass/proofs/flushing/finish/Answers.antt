use Rattle.std.proofs.Common.{List, ℕ, refl, sym, arith}
use Rattle.pipeline.specs.RowStates.{IsStateOfRow}
use Rattle.standing.specs.Rows.{Row}
use Rattle.file_pass.specs.Fed.{feeding_row, poll_of}
use Rattle.file_pass.proofs.FeedingOn.{same_row}
use Rattle.file_pass.proofs.flushing.finish.Goals as goal

pub returns-clause-row : goal.returns-clause-row
returns-clause-row c =
    let text = c.args.setup.now.settings.now in
    let feeding = c.args.feeding.now in
    let bytes : List ℕ = feeding.carried.items in
    let row : Row = feeding_row feeding in
    let state : IsStateOfRow c.args.setup.now.pipeline.now row feeding.state = record { states = record { kinds = c.requires.states; told = refl }; records_are = refl; lines_are = refl } in
    let finished = rw (c.deref.ensures.value, c.as_str-path.ensures) at c.in_ok-finish.ensures.finished in
    let takes = c.a_row_is_flushed_by_the_rules.ensures.flushed text bytes (poll_of c.args.setup.now) row (feeding.state, c.args.lines.now.items) (c.finish.new.state, c.finish.new.out.items) refl state c.requires.cuts finished in
    same_row row (omega (arith, c.len.ensures)) takes.state.records_are takes.state.lines_are (sym takes.state.states.told)

pub returns-clause-lines : goal.returns-clause-lines
returns-clause-lines c =
    let text = c.args.setup.now.settings.now in
    let feeding = c.args.feeding.now in
    let bytes : List ℕ = feeding.carried.items in
    let row : Row = feeding_row feeding in
    let state : IsStateOfRow c.args.setup.now.pipeline.now row feeding.state = record { states = record { kinds = c.requires.states; told = refl }; records_are = refl; lines_are = refl } in
    let finished = rw (c.deref.ensures.value, c.as_str-path.ensures) at c.in_ok-finish.ensures.finished in
    let takes = c.a_row_is_flushed_by_the_rules.ensures.flushed text bytes (poll_of c.args.setup.now) row (feeding.state, c.args.lines.now.items) (c.finish.new.state, c.finish.new.out.items) refl state c.requires.cuts finished in
    rw c.requires.none at takes.written

pub returns-clause-records : goal.returns-clause-records
returns-clause-records c =
    let records = rw c.deref.ensures.value at c.in_ok-finish.ensures.records in
    omega (arith, records, c.len.ensures)

pub returns-clause-many : goal.returns-clause-many
returns-clause-many c = omega (arith, c.in_ok-finish.ensures.lines)
