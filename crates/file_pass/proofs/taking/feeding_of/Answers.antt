use Rattle.std.proofs.Common.{false, refl, sym, ap, ◌∙◌}
use Rattle.idle_flush.specs.declared.idle.Idle.{Idle}
use Rattle.file_pass.proofs.RowLemmas.{restored_row}
use Rattle.file_pass.proofs.taking.feeding_of.Goals as goal

pub returns-clause-row : goal.returns-clause-row
returns-clause-row c =
    restored_row c.args.row.now (record { file = c.args.file; id = c.args.row.now.id; path = c.in_ok-path.path; offset = c.args.row.now.offset; state = c.in_ok-state.state; carried = c.new.result; searched = 0; idle = c.idle.result; flushed = false })
    refl c.in_ok-path.ensures refl c.in_ok-state.ensures.state.records_are c.in_ok-state.ensures.state.lines_are (sym c.as_slice.ensures ∙ c.in_ok-state.ensures.state.states.told) (ap (λ (i : Idle). i.seen) c.idle.ensures)
    (ap (λ (i : Idle). i.quiet) c.idle.ensures)
