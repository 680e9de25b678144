use Rattle.std.proofs.Common.{◌≡◌, false, true, length, drop, get_or, ap, arith, rules, ◌≤◌, ◌⊎◌, inl, inr, ◌+◌}
use Rattle.std.proofs.lemmas.Bool.{cases_lt}
use Rattle.std.proofs.lemmas.Int.{clamps}
use Rattle.checkpoint_store.specs.Parts.{flagged}
use Rattle.checkpoint_store.proofs.Flags.{flagged_set, flagged_clear, flagged_past}
use Rattle.checkpoint_store.proofs.SizeLemmas.{newest_long, next_size, rows_size}
use Rattle.checkpoint_store.proofs.sizes.flagged_size.Goals as goal
use Rattle.checkpoint_store.proofs.sizes.flagged_size.Goals.{then-changed-place, else-changed-place}

pub row_size-size-requires : goal.row_size-size-requires
row_size-size-requires c =
    let all = c.min-all.ensures in
    let flags = c.args.changed.now in
    let rows = c.args.rows.now in
    let place = c.loop-place.place in
    let left = flagged (drop place flags) (drop place rows) in
    let behind = flagged (drop (place + 1) flags) (drop (place + 1) rows) in
    let set : get_or flags place false ≡ true = search rules in
    let row = c.index-rows-place.result in
    let next = next_size left behind row (flagged_set flags rows place row (omega (arith, clamps)) (omega (arith, clamps)) set c.index-rows-place.is) in
    omega (arith, next, newest_long row, c.loop-place.invariant, c.requires)

pub overflow_add-size : goal.overflow_add-size
overflow_add-size c =
    let all = c.min-all.ensures in
    let flags = c.args.changed.now in
    let rows = c.args.rows.now in
    let place = c.loop-place.place in
    let left = flagged (drop place flags) (drop place rows) in
    let behind = flagged (drop (place + 1) flags) (drop (place + 1) rows) in
    let set : get_or flags place false ≡ true = search rules in
    let row = c.index-rows-place.result in
    let next = next_size left behind row (flagged_set flags rows place row (omega (arith, clamps)) (omega (arith, clamps)) set c.index-rows-place.is) in
    omega (arith, next, c.row_size-size.ensures, c.loop-place.invariant, c.requires)

pub loop-place-preserved : goal.loop-place-preserved
loop-place-preserved c =
    let all = c.min-all.ensures in
    let flags = c.args.changed.now in
    let rows = c.args.rows.now in
    let place = c.loop-place.place in
    let left = flagged (drop place flags) (drop place rows) in
    let behind = flagged (drop (place + 1) flags) (drop (place + 1) rows) in
    let so_far = c.loop-place.invariant in
    elim c.if-changed-place.branch [
      | then-changed-place w ↦
          let set : get_or flags place false ≡ true = search rules in
          let row = w.index-rows-place.result in
          let next = next_size left behind row (flagged_set flags rows place row (omega (arith, clamps)) (omega (arith, clamps)) set w.index-rows-place.is) in
          let size = w.size-is in
          omega (arith, w.row_size-size.ensures)
      | else-changed-place w ↦
          let clear : get_or flags place false ≡ false = search rules in
          let same = ap rows_size (flagged_clear flags rows place (omega (arith, clamps)) (omega (arith, clamps)) clear) in
          let size = w.size-is in
          omega arith
    ]

pub returns : goal.returns
returns c =
    let all = c.min-all.ensures in
    let past : (length c.args.changed.now ≤ c.loop-place.place) ⊎ (length c.args.rows.now ≤ c.loop-place.place) =
    elim (cases_lt (length c.args.changed.now) (length c.args.rows.now)) [
      | inl shorter ↦ inl (omega (arith, clamps))
      | inr longer ↦ inr (omega (arith, clamps))
    ] in
    let none : rows_size (flagged (drop c.loop-place.place c.args.changed.now) (drop c.loop-place.place c.args.rows.now)) ≡ 0 = ap rows_size (flagged_past c.loop-place.place c.args.changed.now c.args.rows.now past) in
    let so_far = c.loop-place.invariant in
    omega arith
