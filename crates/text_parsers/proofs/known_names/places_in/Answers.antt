use Rattle.std.proofs.Common.{List, ℕ, ◌++◌, ◌∷◌, [], ap, sym, subst, ◌∙◌, take, Vec, Global}
use Rattle.std.proofs.lemmas.List.{take_all, take_more}
use Rattle.text_parsers.specs.Inner.Known.{AreAt}
use Rattle.text_parsers.proofs.Known.{one_place_more, not_missing}
use Rattle.text_parsers.proofs.known_names.places_in.Goals as goal
use Rattle.text_parsers.proofs.known_names.places_in.Goals.{in-Ok+in_ok-push, in_default}

pub loop-name-preserved : goal.loop-name-preserved
loop-name-preserved c =
    let es = c.args.unset.now.entries in
    let names = c.args.names.now in
    let i = c.loop-name.name-index in
    let name = c.name-item.result in
    let more = take_more names i name c.loop-name-test.true ∙ ap (λ (n : List ℕ). take i names ++ n ∷ []) (sym c.name-item.is) in
    elim c.match-place.branch [
      | in-Ok+in_ok-push w ↦
          subst (λ (l : List (List ℕ)). AreAt es l c.match-place.places.items) (sym more)
          (subst (λ (l : List ℕ). AreAt es (take i names ++ name ∷ []) l) (sym (ap (λ (v : Vec ℕ Global). v.items) w.places-is ∙ w.in_ok-push.ensures.items))
          (one_place_more es (take i names) c.loop-name.places.items name w.in-Ok.at c.loop-name.invariant w.in-Ok.ensures.found))
      | in_default w ↦ absurd (not_missing es names i name w.in_default.field-0 c.requires c.place.ensures.ordered c.loop-name-test.true c.name-item.is w.in_default.ensures.missing)
    ]

pub returns : goal.returns
returns c =
    subst (λ (l : List (List ℕ)). AreAt c.args.unset.now.entries l c.loop-name.places.items) (take_all c.loop-name.name-index c.args.names.now c.loop-name-test.false) c.loop-name.invariant
