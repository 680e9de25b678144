use Rattle.std.proofs.Common.{◌∷◌, ◌∙◌, ap, sym}
use Rattle.glob_match.specs.declared.pattern.Component.{Component}
use Rattle.glob_match.specs.Inner.Front.{here}
use Rattle.glob_match.specs.GlobMatch.{no_names}
use Rattle.glob_match.specs.Inner.Walked.{names_left}
use Rattle.glob_match.proofs.Walks.{carries_more, fits_none, folders_if, no_components, some_name}
use Rattle.glob_match.proofs.matching.match_front.Goals as goal

pub returns-in_default-first : goal.returns-in_default-first
returns-in_default-first c =
    let is = c.in-Some.ensures.cases.0 ∙ ap (λ (x : Component). x ∷ c.in-Some.others.now) (folders_if c.in-Some.first.now c.in_default-first.not-Name) in
    c.loop-first.invariant.up_to c.in-Some.others.now (names_left c.loop-first.left) (rw is here)

pub loop-first-preserved : goal.loop-first-preserved
loop-first-preserved c =
    let is = c.in-Some.ensures.cases.0 ∙ ap (λ (x : Component). x ∷ c.in-Some.others.now) c.in-Name.is in
    let left = ap names_left c.in-Some-left.is ∙ c.split.ensures in
    carries_more c.args.components.now (names_left c.args.names) c.in-Name.pieces c.in-Some.others.now c.split.result.0.now (names_left c.loop-first.left) (names_left c.split.result.1)
    (rw is at c.loop-first.invariant) left (rw (← c.pieces.view_is, ← c.deref.ensures.value) (c.fits_name.ensures.0 c.if-not-fits_name.false))

pub returns-in-None : goal.returns-in-None
returns-in-None c =
    let empty = no_components c.loop-first.at.now c.in_default.ensures.cases in
    c.loop-first.invariant.fits (rw (empty, c.in-None.is) no_names)

pub returns-in-Some-left-2 : goal.returns-in-Some-left-2
returns-in-Some-left-2 c = λ fits.
    let empty = no_components c.loop-first.at.now c.in_default.ensures.cases in
    some_name c.in-Some-left-2.field-0.now (sym (ap names_left c.in-Some-left-2.is) ∙ fits_none (names_left c.loop-first.left) (rw empty at (c.loop-first.invariant.only fits)))
