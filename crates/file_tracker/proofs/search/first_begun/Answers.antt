use Rattle.std.proofs.Common.{◌≡◌, ℕ, true, false, get_or, sym, ap, subst, ◌∙◌, arith, below_more}
use Rattle.std.proofs.lemmas.List.{get_or_read}
use Rattle.std.specs.Ordering.{is_eq}
use Rattle.file_tracker.specs.declared.row.Row.{Row}
use Rattle.file_tracker.specs.Fronts.{begins, front_of}
use Rattle.file_tracker.proofs.FrontLemmas.{tied}
use Rattle.file_tracker.proofs.PlaceLemmas.{position_first, position_none}
use Rattle.file_tracker.proofs.search.first_begun.Goals as goal

pub returns-then-is_eq-clause-first : goal.returns-then-is_eq-clause-first
returns-then-is_eq-clause-first g c =
    let row : Row = c.index-rows-place.result in
    let passes : begins (front_of row) c.args.text.now ≡ true =
    sym (tied (front_of row) c.args.text.now) ∙ sym (ap is_eq c.compare.ensures.value) ∙ sym c.is_eq.ensures ∙ c.if-is_eq.true in
    sym (position_first (λ (r : Row). begins (front_of r) c.args.text.now) c.args.rows.now c.loop-place.place row (omega arith)
    (λ k. c.loop-place.invariant.1 k row) (subst (λ (r : Row). begins (front_of r) c.args.text.now ≡ true) c.index-rows-place.is passes))

pub loop-place-preserved : goal.loop-place-preserved
loop-place-preserved g c =
    let row : Row = c.index-rows-place.result in
    let fails : begins (front_of row) c.args.text.now ≡ false =
    sym (tied (front_of row) c.args.text.now) ∙ sym (ap is_eq c.compare.ensures.value) ∙ sym c.is_eq.ensures ∙ c.if-is_eq.false in (
      omega (arith, c.loop-place.invariant.0, c.compare.ensures.counted),
      λ k d. below_more (λ (j : ℕ). begins (front_of (get_or c.args.rows.now j d)) c.args.text.now ≡ false) c.loop-place.place
          (λ j. c.loop-place.invariant.1 j d)
          (subst (λ (r : Row). begins (front_of r) c.args.text.now ≡ false)
          (get_or_read c.args.rows.now c.loop-place.place row (omega arith) c.index-rows-place.is d) fails)
          k,
    )

pub returns-clause-first : goal.returns-clause-first
returns-clause-first g c = sym (position_none (λ (r : Row). begins (front_of r) c.args.text.now) c.args.rows.now (λ k d h. c.loop-place.invariant.1 k d (omega arith)))
