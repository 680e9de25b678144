use Rattle.std.proofs.Common.{◌≡◌, List, ap, ◌∙◌, arith}
use Rattle.std.specs.List.{fold}
use Rattle.file_tracker.specs.declared.row.Row.{Row}
use Rattle.checkpoint_store.specs.declared.Checkpoint.{Checkpoint}
use Rattle.checkpoint_store.specs.Changed.{with_row}
use Rattle.checkpoint_store.proofs.ChangeEnds.{whole_change_takes, spells_no_change}
use Rattle.checkpoint_store.proofs.changes.apply.Goals as goal

pub returns-in-Err-Malformed : goal.returns-in-Err-Malformed
returns-in-Err-Malformed c =
    spells_no_change c.args.version c.args.before c.args.bytes.now c.in-Err-Malformed.left c.saturating_sub.result (λ i. omega (arith, c.type_inv.bytes i))
    (rw c.in-Err-Malformed.field-0-is at c.in-Err-Malformed.ensures) c.saturating_sub.ensures

pub returns-in-Ok-with_rows : goal.returns-in-Ok-with_rows
returns-in-Ok-with_rows c =
    let t = whole_change_takes c.args.version c.args.before c.args.bytes.now c.in-Ok.change (λ i. omega (arith, c.type_inv.bytes i)) c.in-Ok.ensures in
    let with_these : List Row → Checkpoint = λ rows.
    record {
      eras = c.args.before.eras;
      output_length = c.in-Ok.change.output_length;
      observed = c.in-Ok.change.observed;
      next_id = c.in-Ok.change.next_id;
      rows = rows;
    } in
    let rows : c.new.result ≡ fold with_row c.args.before.rows c.in-Ok.change.rows =
    c.new.ensures ∙ c.in-Ok-with_rows.ensures ∙ ap (λ (l : List Row). fold with_row l c.into_vec-2.result.items) c.into_vec.ensures ∙ ap (fold with_row c.args.before.rows) c.into_vec-2.ensures in
    record { change = c.in-Ok.change; fits = t.0; spelled = t.1; after_is = ap with_these rows }
