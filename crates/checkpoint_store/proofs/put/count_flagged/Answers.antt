use Rattle.std.proofs.Common.{◌≡◌, false, true, List, length, drop, get_or, ap, arith, rules, ◌≤◌, ◌⊎◌, inl, inr}
use Rattle.std.proofs.lemmas.Bool.{cases_lt}
use Rattle.std.proofs.lemmas.Int.{clamps}
use Rattle.file_tracker.specs.declared.row.Row.{Row}
use Rattle.checkpoint_store.specs.Parts.{flagged}
use Rattle.checkpoint_store.proofs.Flags.{flagged_left, flagged_clear, flagged_past}
use Rattle.checkpoint_store.proofs.put.count_flagged.Goals as goal
use Rattle.checkpoint_store.proofs.put.count_flagged.Goals.{then-changed-place, else-changed-place}

pub loop-place-preserved : goal.loop-place-preserved
loop-place-preserved c =
    let all = c.min-all.ensures in
    let flags = c.args.changed.now in
    let rows = c.args.rows.now in
    let place = c.loop-place.place in
    let so_far = c.loop-place.invariant in
    elim c.if-changed-place.branch [
      | then-changed-place w ↦
          let set : get_or flags place false ≡ true = search rules in
          let one = flagged_left flags rows place (omega (arith, clamps)) (omega (arith, clamps)) set in
          let count = w.count-is in
          (omega arith, omega arith)
      | else-changed-place w ↦
          let clear : get_or flags place false ≡ false = search rules in
          let same = ap (λ (l : List Row). length l) (flagged_clear flags rows place (omega (arith, clamps)) (omega (arith, clamps)) clear) in
          let count = w.count-is in
          (omega arith, omega arith)
    ]

pub returns : goal.returns
returns c =
    let all = c.min-all.ensures in
    let past : (length c.args.changed.now ≤ c.loop-place.place) ⊎ (length c.args.rows.now ≤ c.loop-place.place) =
    elim (cases_lt (length c.args.changed.now) (length c.args.rows.now)) [
      | inl shorter ↦ inl (omega (arith, clamps))
      | inr longer ↦ inr (omega (arith, clamps))
    ] in
    let none : length (flagged (drop c.loop-place.place c.args.changed.now) (drop c.loop-place.place c.args.rows.now)) ≡ 0 = ap (λ (l : List Row). length l) (flagged_past c.loop-place.place c.args.changed.now c.args.rows.now past) in
    let so_far = c.loop-place.invariant in
    omega arith
