use Rattle.std.proofs.Common.{◌≡◌, ◌∙◌, ◌∷◌, ap, sym, subst, length, arith}
use Rattle.std.proofs.lemmas.Bool.{both_ways}
use Rattle.std.proofs.lemmas.Str.{chars_past_char}
use Rattle.std.specs.Str.{chars, IsUtf8}
use Rattle.std.specs.Str.Iter.{chars_rest}
use Rattle.glob_match.specs.declared.pattern.Piece.{Piece}
use Rattle.glob_match.specs.Inner.FitsBoth.{FitsBoth}
use Rattle.glob_match.proofs.Searching.{long_unit, long_none, long_single, long_any, star_more, star_end, one_more, some_more, size_below, no_bytes, nothing}
use Rattle.glob_match.proofs.search.+search.Goals as goal

-- the text that is left, as `as_str` gives it, doesn't fit
pub fits_behind-returns-in-None : goal.fits_behind-returns-in-None
fits_behind-returns-in-None t c =
    let never : FitsBoth c.args.units.now c.args.pieces.now (chars (chars_rest c.loop-left.left)) → ⊥ = λ both. both_ways c.fits_long.result c.if-fits_long.false (c.fits_long.ensures.1 (rw c.as_str.ensures both)) in
    let empty = no_bytes (chars_rest c.loop-left.left) c.in-None.ensures.steps.0.0 in
    ((λ h. absurd (cc h)), (λ fits. absurd (star_end c.args.units.now c.args.pieces.now (chars (chars_rest c.loop-left.left)) empty never (c.loop-left.invariant.0 fits))))

pub fits_behind-loop-left-preserved : goal.fits_behind-loop-left-preserved
fits_behind-loop-left-preserved t c =
    let never : FitsBoth c.args.units.now c.args.pieces.now (chars (chars_rest c.loop-left.left)) → ⊥ = λ both. both_ways c.fits_long.result c.if-fits_long.false (c.fits_long.ensures.1 (rw c.as_str.ensures both)) in
    let text : IsUtf8 (chars_rest c.loop-left.left) = subst IsUtf8 c.as_str.ensures c.as_str.utf8 in
    let first = chars_past_char (chars_rest c.loop-left.left) (chars_rest c.next.new.self) c.in-Some.field-0 text c.in-Some.ensures.steps.0 in
    let same = star_more c.args.units.now c.args.pieces.now (chars (chars_rest c.loop-left.left)) (chars (chars_rest c.next.new.self)) c.in-Some.field-0 first never in
    ((λ fits. same.0 (c.loop-left.invariant.0 fits)), (λ fits. c.loop-left.invariant.1 (same.1 fits)))

pub fits_from-returns-then-takes : goal.fits_from-returns-then-takes
fits_from-returns-then-takes t c =
    let same = one_more c.args.unit.now c.args.units.now c.args.pieces.now (chars c.args.name.now) (chars c.in-Some.rest.now) c.in-Some.character c.in_default.not-Star c.in-Some.ensures in (
      (λ h. same.1 (sym c.takes.ensures ∙ c.if-takes.true, c.fits_long.ensures.0 h)),
      (λ fits. c.fits_long.ensures.1 (same.0 fits).1),
    )

pub fits_long-returns-in-Some : goal.fits_long-returns-in-Some
fits_long-returns-in-Some t c =
    let same = long_unit c.in-Some.unit.now c.in-Some.others.now c.args.pieces.now (chars c.args.name.now) in
    rw c.in-Some.ensures.cases.0 ((λ h. same.1 (c.fits_from.ensures.0 h)), (λ fits. c.fits_from.ensures.1 (same.0 fits)))

pub fits_long-returns-in-Some-Single-default : goal.fits_long-returns-in-Some-Single-default
fits_long-returns-in-Some-Single-default t c =
    let a = c.in-Some-Single-default in
    let none = nothing c.args.units.now c.in_default.ensures.cases in
    let first = a.ensures.cases.0 ∙ ap (λ (p : Piece). p ∷ a.others.now) a.field-0-0-is in
    let same = long_single a.unit a.others.now (chars c.args.name.now) in
    rw (none, first) ((λ h. same.1 (c.fits_from-in-Some-Single-default.ensures.0 h)), (λ fits. c.fits_from-in-Some-Single-default.ensures.1 (same.0 fits)))

pub fits_long-returns-in-Some-AnyOf-default : goal.fits_long-returns-in-Some-AnyOf-default
fits_long-returns-in-Some-AnyOf-default t c =
    let a = c.in-Some-AnyOf-default in
    let none = nothing c.args.units.now c.in_default.ensures.cases in
    let first = a.ensures.cases.0 ∙ ap (λ (p : Piece). p ∷ a.others.now) a.field-0-0-is in
    let seen = c.deref.ensures.value ∙ c.parts.view_is in
    let same = long_any a.parts a.others.now (chars c.args.name.now) in
    rw (none, first) ((λ h. same.1 (rw seen at (c.fits_some.ensures.0 h))), (λ fits. c.fits_some.ensures.1 (rw seen (same.0 fits))))

pub fits_long-returns-in-None : goal.fits_long-returns-in-None
fits_long-returns-in-None t c =
    let none = nothing c.args.units.now c.in_default.ensures.cases in
    let no_pieces = nothing c.args.pieces.now c.in-None.ensures.cases in
    let same = long_none (chars c.args.name.now) in
    rw (none, no_pieces) ((λ h. same.1 (c.is_empty.ensures.0 h)), (λ fits. c.is_empty.ensures.1 (same.0 fits)))

pub fits_some-fits_long-requires : goal.fits_some-fits_long-requires
fits_some-fits_long-requires t c =
    let below = size_below c.args.parts.now c.loop-part.part-index c.part-item.result c.loop-part-test.true c.part-item.is in
    let same : length c.deref.result.now ≡ length c.part-item.result = ap length (c.deref.ensures.value ∙ c.part.view_is) in
    (omega (arith, below, same), tt)

pub fits_some-loop-part-preserved : goal.fits_some-loop-part-preserved
fits_some-loop-part-preserved t c =
    some_more c.args.parts.now c.loop-part.part-index c.part-item.result c.args.pieces.now (chars c.args.name.now) c.loop-part-test.true c.part-item.is c.loop-part.invariant
    (λ both. both_ways c.fits_long.result c.if-fits_long.false (c.fits_long.ensures.1 (rw (c.deref.ensures.value, c.part.view_is) both)))
