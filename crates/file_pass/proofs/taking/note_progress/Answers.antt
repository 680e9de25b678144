use Rattle.std.proofs.Common.{◌≡◌, ◌∙◌, ◌≤◌, sym, ap, subst, arith, inl, inr, List, length, true}
use Rattle.std.proofs.lemmas.Option.{same_Some}
use Rattle.std.specs.Prelude.{slice_set}
use Rattle.file_tracker.specs.declared.row.Row.{Row}
use Rattle.file_pass.specs.Fed.{rules_in}
use Rattle.file_pass.specs.Grown.{FlagsGrowth, HasGrown}
use Rattle.file_pass.specs.Inner.Noted.{noted_row}
use Rattle.file_pass.proofs.Listing.{set_same}
use Rattle.file_pass.proofs.Flagging.{growth_none, growth_set}
use Rattle.file_pass.proofs.taking.note_progress.Goals as goal

pub advance-requires-clause-rises : goal.advance-requires-clause-rises
advance-requires-clause-rises c = λ row at. (c.requires.noted row at).rises

pub returns-in_ok-bytes-clause-flags : goal.returns-in_ok-bytes-clause-flags
returns-in_ok-bytes-clause-flags c =
    let feeding = c.args.feeding.now in
    let row : Row = c.row.result.now in
    let may = c.requires.noted row c.row.ensures in
    let grown : HasGrown (rules_in c.args.setup.now) row (noted_row feeding row) = elim (c.has_grown.ensures.yes c.if-has_grown.true) [
      | inl flushed ↦ may.grown flushed
      | inr further ↦ inr (inl further)
    ] in
    let told = c.into_vec.ensures ∙ c.in_ok-bytes.ensures.text in
    subst (λ (rows : List Row). FlagsGrowth (rules_in c.args.setup.now) c.args.taking.now.tracker c.args.taking.now.changed.items rows (slice_set c.args.taking.now.changed.items c.args.place true)) (sym (c.advance.ensures row c.row.ensures))
    (rw told (growth_set (rules_in c.args.setup.now) c.args.taking.now.tracker c.args.taking.now.changed.items c.args.place row (noted_row feeding row) c.row.ensures may.held grown))

pub returns-else-has_grown-clause-row : goal.returns-else-has_grown-clause-row
returns-else-has_grown-clause-row c = λ row at.
    let is : row ≡ c.row.result.now = same_Some row c.row.result.now (sym at ∙ c.row.ensures) in
    let stood = c.has_grown.ensures.no c.if-has_grown.false in
    let no_further : c.args.feeding.now.offset ≤ row.offset = omega (arith, stood.1, ap (λ (r : Row). r.offset) is) in
    sym (ap (slice_set c.args.taking.now.tracker c.args.place) ((c.requires.noted row at).same stood.0 no_further) ∙ set_same c.args.taking.now.tracker c.args.place row at)

pub returns-else-has_grown-clause-short : goal.returns-else-has_grown-clause-short
returns-else-has_grown-clause-short c = λ row at short.
    let is : row ≡ c.row.result.now = same_Some row c.row.result.now (sym at ∙ c.row.ensures) in
    let stood = c.has_grown.ensures.no c.if-has_grown.false in
    let same = (c.requires.noted row at).same stood.0 (omega (arith, stood.1, ap (λ (r : Row). r.offset) is)) in
    omega (arith, short, ap (λ (r : Row). length r.state) same)

pub returns-else-has_grown-clause-flags : goal.returns-else-has_grown-clause-flags
returns-else-has_grown-clause-flags c = growth_none (rules_in c.args.setup.now) c.args.taking.now.tracker c.args.taking.now.changed.items
