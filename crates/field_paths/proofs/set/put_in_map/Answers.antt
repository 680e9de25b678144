use Rattle.std.proofs.Common.{◌≡◌, ◌∙◌, ap, sym, ℕ, List, [], length, nat_eq, true}
use Rattle.entry_model.specs.Datum.{datum, is_map_datum}
use Rattle.field_paths.proofs.Steps.{still_a_map}
use Rattle.field_paths.proofs.set.put_in_map.Goals as goal
use Rattle.field_paths.proofs.set.put_in_map.Goals.{else-is_empty-via-then-is_empty+else-not-is_a_map, else-is_empty-via-else-is_empty}

pub returns-clause-map : goal.returns-clause-map
returns-clause-map c =
    let map : c.args.names.now ≡ [] → is_map_datum (datum c.args.value) ≡ true = elim c.else-is_empty.branch [
      | else-is_empty-via-then-is_empty+else-not-is_a_map w ↦ λ e. (let h = w.if-not-is_a_map in let k = w.is_a_map.ensures in sym k ∙ h.false)
      | else-is_empty-via-else-is_empty w ↦ λ e. (let h = w.if-is_empty.false in let k = c.is_empty.ensures ∙ ap (λ (names : List (List ℕ)). nat_eq (length names) 0) e in absurd (cc (h, k)))
    ] in
    still_a_map c.put.result c.args.names.now (datum c.args.value) (datum c.args.target.now) (datum c.put.new.target) map c.put.ensures.ok c.put.ensures.err c.requires
