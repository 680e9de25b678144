use Rattle.std.proofs.Common.{List, ℕ, ap, sym, subst, ◌∙◌}
use Rattle.text_parsers.specs.Inner.Known.{unset_with, AreAt}
use Rattle.text_parsers.proofs.Known.{names_here}
use Rattle.text_parsers.proofs.known_names.KnownNames.new.Goals as goal

pub invariant_of-result : goal.invariant_of-result
invariant_of-result c =
    let es = c.in_ok-unset.unset.entries in
    let places = c.in_ok-places.places.items in
    let here = sym (names_here es c.args.names.now places c.in_ok-places.ensures) in
    record { unset_is = c.in_ok-unset.ensures ∙ ap unset_with here; stand = subst (λ (l : List (List ℕ)). AreAt es l places) here c.in_ok-places.ensures }

pub returns : goal.returns
returns c = names_here c.in_ok-unset.unset.entries c.args.names.now c.in_ok-places.places.items c.in_ok-places.ensures
