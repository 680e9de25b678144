use Rattle.std.proofs.Common.{◌∷◌, ◌∙◌, ap}
use Rattle.std.proofs.lemmas.Bool.{both_ways}
use Rattle.glob_match.specs.declared.pattern.Component.{Component}
use Rattle.glob_match.specs.Inner.Walked.{names_left}
use Rattle.glob_match.proofs.Walks.{folders_if, none_left_if, may_hold_more, may_hold_other, may_hold_folders, may_hold_all, some_names}
use Rattle.glob_match.proofs.matching.may_hold.Goals as goal

pub returns-in_default-first : goal.returns-in_default-first
returns-in_default-first c =
    let is = c.in-Some-split_first.ensures.cases.0 ∙ ap (λ (x : Component). x ∷ c.in-Some-split_first.others.now) (folders_if c.in-Some-split_first.first.now c.in_default-first.not-Name) in
    let some = some_names c.in-Some.path.now in
    let left = ap names_left c.in-Some.is ∙ some.2 in
    let all = may_hold_folders c.in-Some-split_first.others.now some.0 some.1 c.is_empty.result c.is_empty.ensures in
    ((λ h. c.loop-left.invariant.1 (rw (is, left) (all.0 h))), (λ may. all.1 (rw (← is, ← left) (c.loop-left.invariant.0 may))))

pub returns-then-not-fits_name : goal.returns-then-not-fits_name
returns-then-not-fits_name c =
    let is = c.in-Some-split_first.ensures.cases.0 ∙ ap (λ (x : Component). x ∷ c.in-Some-split_first.others.now) c.in-Name.is in
    let left = ap names_left c.in-Some.is ∙ c.split.ensures in
    let never = may_hold_other c.in-Name.pieces c.in-Some-split_first.others.now c.split.result.0.now (names_left c.split.result.1)
    (λ fits. both_ways c.fits_name.result c.if-not-fits_name.true (c.fits_name.ensures.1 (rw (c.deref.ensures.value, c.pieces.view_is) fits))) in
    ((λ h. absurd (cc h)), (λ may. absurd (never (rw (← is, ← left) (c.loop-left.invariant.0 may)))))

pub loop-left-preserved : goal.loop-left-preserved
loop-left-preserved c =
    let is = c.in-Some-split_first.ensures.cases.0 ∙ ap (λ (x : Component). x ∷ c.in-Some-split_first.others.now) c.in-Name.is in
    let left = ap names_left c.in-Some.is ∙ c.split.ensures in
    let same = may_hold_more c.in-Name.pieces c.in-Some-split_first.others.now c.split.result.0.now (names_left c.split.result.1)
    (rw (← c.pieces.view_is, ← c.deref.ensures.value) (c.fits_name.ensures.0 c.if-not-fits_name.false)) in
    ((λ may. same.0 (rw (← is, ← left) (c.loop-left.invariant.0 may))), (λ may. c.loop-left.invariant.1 (rw (is, left) (same.1 may))))

pub returns : goal.returns
returns c =
    let none = none_left_if c.loop-left.left c.in_default.not-Some in
    let all = may_hold_all c.loop-left.at.now c.is_empty-2.result c.is_empty-2.ensures in
    ((λ h. c.loop-left.invariant.1 (rw none (all.0 h))), (λ may. all.1 (rw (← none) (c.loop-left.invariant.0 may))))
