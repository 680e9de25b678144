use Rattle.std.proofs.Common.{◌<◌, arith, refl, sym, ap, subst, inl, inr, List, ℕ, length, true}
use Rattle.std.specs.Prelude.{slice_set}
use Rattle.file_tracker.specs.Places.{with_front}
use Rattle.file_tracker.specs.declared.row.Row.{Row}
use Rattle.file_pass.specs.Grown.{FlagsGrowth}
use Rattle.file_pass.proofs.Finding.{known_begins, known_as_is}
use Rattle.file_pass.proofs.Flagging.{growth_none, growth_set}
use Rattle.file_pass.proofs.settling.grow.Goals as goal

pub grow_front-requires-clause-grows : goal.grow_front-requires-clause-grows
grow_front-requires-clause-grows c = λ row at. known_begins c.args.front.now c.args.taking.now.tracker c.args.place row c.requires.known at

pub returns-in_ok-grow_front-clause-flags : goal.returns-in_ok-grow_front-clause-flags
returns-in_ok-grow_front-clause-flags c = λ rules.
    let longer : length c.row.result.now.front < length c.args.front.now = omega (arith, c.if-as_slice-front.true, ap (λ (l : List ℕ). length l) c.as_slice.ensures) in
    subst (λ (rows : List Row). FlagsGrowth rules c.args.taking.now.tracker c.args.taking.now.changed.items rows (slice_set c.args.taking.now.changed.items c.args.place true)) (sym (c.in_ok-grow_front.ensures.ok c.row.result.now c.row.ensures))
    (growth_set rules c.args.taking.now.tracker c.args.taking.now.changed.items c.args.place c.row.result.now (with_front c.args.front.now c.row.result.now) c.row.ensures (record { front = omega (arith, longer); offset = omega arith; held = inr (inl refl) }) (inl longer))

pub returns-else-as_slice-front-clause-known : goal.returns-else-as_slice-front-clause-known
returns-else-as_slice-front-clause-known c =
    known_as_is c.args.front.now c.args.taking.now.tracker c.args.place c.row.result.now c.requires.known c.row.ensures (omega (arith, c.if-as_slice-front.false, ap (λ (l : List ℕ). length l) c.as_slice.ensures))

pub returns-else-as_slice-front-clause-flags : goal.returns-else-as_slice-front-clause-flags
returns-else-as_slice-front-clause-flags c = λ rules. growth_none rules c.args.taking.now.tracker c.args.taking.now.changed.items
