use Rattle.std.proofs.Common.{◌≡◌, ◌∙◌, ◌++◌, false, true, List, ℕ, length, drop, get_or, sym, ap, arith, rules, ◌≤◌, ◌⊎◌, inl, inr, ◌+◌}
use Rattle.std.proofs.lemmas.Bool.{cases_lt}
use Rattle.std.proofs.lemmas.Int.{clamps}
use Rattle.std.proofs.lemmas.List.{append-nil}
use Rattle.std.specs.List.{flat_map}
use Rattle.file_tracker.specs.declared.row.Row.{Row}
use Rattle.checkpoint_store.specs.Limits.{newest}
use Rattle.checkpoint_store.specs.Parts.{flagged}
use Rattle.checkpoint_store.specs.Spelling.{row_spelling}
use Rattle.checkpoint_store.proofs.Flags.{flagged_set, flagged_clear, flagged_past, one_more_put}
use Rattle.checkpoint_store.proofs.put.put_flagged.Goals as goal
use Rattle.checkpoint_store.proofs.put.put_flagged.Goals.{then-changed-place+in_ok-put_row, else-changed-place}

pub loop-place-preserved : goal.loop-place-preserved
loop-place-preserved c =
    let all = c.min-all.ensures in
    let flags = c.args.changed.now in
    let rows = c.args.rows.now in
    let place = c.loop-place.place in
    let left = flagged (drop place flags) (drop place rows) in
    let behind = flagged (drop (place + 1) flags) (drop (place + 1) rows) in
    let start : List ℕ = c.args.out.now.items ++ flat_map (row_spelling newest) (flagged flags rows) in
    let so_far = c.loop-place.invariant in
    elim c.if-changed-place.branch [
      | then-changed-place+in_ok-put_row w ↦
          let set : get_or flags place false ≡ true = search rules in
          let row = w.index-rows-place.result in
          rw w.out-is
          (one_more_put (row_spelling newest) left behind row c.loop-place.out.items w.put_row.new.out.items start
          (flagged_set flags rows place row (omega (arith, clamps)) (omega (arith, clamps)) set w.index-rows-place.is) w.in_ok-put_row.ensures so_far)
      | else-changed-place w ↦
          let clear : get_or flags place false ≡ false = search rules in
          rw w.out-is
          (ap (λ (l : List Row). c.loop-place.out.items ++ flat_map (row_spelling newest) l) (sym (flagged_clear flags rows place (omega (arith, clamps)) (omega (arith, clamps)) clear)) ∙ so_far)
    ]

pub returns : goal.returns
returns c =
    let all = c.min-all.ensures in
    let past : (length c.args.changed.now ≤ c.loop-place.place) ⊎ (length c.args.rows.now ≤ c.loop-place.place) =
    elim (cases_lt (length c.args.changed.now) (length c.args.rows.now)) [
      | inl shorter ↦ inl (omega (arith, clamps))
      | inr longer ↦ inr (omega (arith, clamps))
    ] in
    let none = flagged_past c.loop-place.place c.args.changed.now c.args.rows.now past in
    sym (append-nil c.loop-place.out.items)
    ∙ ap (λ (l : List Row). c.loop-place.out.items ++ flat_map (row_spelling newest) l) (sym none)
    ∙ c.loop-place.invariant
