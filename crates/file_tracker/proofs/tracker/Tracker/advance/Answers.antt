use Rattle.std.proofs.Common.{◌≡◌, ◌<◌, ℕ, List, length, refl, ap, ◌∙◌, slice_set}
use Rattle.file_tracker.specs.declared.row.Row.{Row}
use Rattle.file_tracker.specs.Places.{with_progress}
use Rattle.file_tracker.proofs.RowLemmas.{kept_same, row_read}
use Rattle.file_tracker.proofs.tracker.Tracker.advance.Goals as goal

pub invariant_of-self : goal.invariant_of-self
invariant_of-self c =
    let rows : List Row = c.self.inside.rows.items in
    let was : Row = c.index_mut-advanced.result.now in
    let inside : c.args.place < length rows = rw c.self.view_is c.requires.in_range in
    kept_same rows c.self.inside.order.items c.self.inside.nested c.args.place was (with_progress c.args.offset c.args.records c.args.lines c.new.result was) inside
    c.index_mut-advanced.ensures.value refl c.self.invariant

pub returns : goal.returns
returns c row there =
    let rows : List Row = c.self.inside.rows.items in
    let was : Row = c.index_mut-advanced.result.now in
    let inside : c.args.place < length rows = rw c.self.view_is c.requires.in_range in
    let same : was ≡ row = row_read rows c.args.place row was inside c.index_mut-advanced.ensures.value (rw c.self.view_is there) in
    ap (λ (all : List Row). slice_set all c.args.place (with_progress c.args.offset c.args.records c.args.lines c.new.result was)) c.self.view_is
    ∙ ap (λ (r : Row). slice_set c.args.self.now c.args.place (with_progress c.args.offset c.args.records c.args.lines c.new.result r)) same
    ∙ ap (λ (held : List ℕ). slice_set c.args.self.now c.args.place (with_progress c.args.offset c.args.records c.args.lines held row)) c.new.ensures
