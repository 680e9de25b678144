use Rattle.std.proofs.Common.{◌≡◌, ◌<◌, List, length, refl, ap, ◌∙◌, slice_set}
use Rattle.file_tracker.specs.declared.row.Row.{Row}
use Rattle.file_tracker.specs.Places.{with_look}
use Rattle.file_tracker.proofs.RowLemmas.{kept_same, row_read}
use Rattle.file_tracker.proofs.tracker.Tracker.note.Goals as goal

pub invariant_of-self : goal.invariant_of-self
invariant_of-self c =
    let rows : List Row = c.self.inside.rows.items in
    let was : Row = c.index_mut-noted.result.now in
    let inside : c.args.place < length rows = rw c.self.view_is c.requires in
    kept_same rows c.self.inside.order.items c.self.inside.nested c.args.place was (with_look c.args.seen c.args.quiet was) inside
    c.index_mut-noted.ensures.value refl c.self.invariant

pub returns : goal.returns
returns c row there =
    let rows : List Row = c.self.inside.rows.items in
    let was : Row = c.index_mut-noted.result.now in
    let inside : c.args.place < length rows = rw c.self.view_is c.requires in
    let same : was ≡ row = row_read rows c.args.place row was inside c.index_mut-noted.ensures.value (rw c.self.view_is there) in
    ap (λ (all : List Row). slice_set all c.args.place (with_look c.args.seen c.args.quiet was)) c.self.view_is
    ∙ ap (λ (r : Row). slice_set c.args.self.now c.args.place (with_look c.args.seen c.args.quiet r)) same
