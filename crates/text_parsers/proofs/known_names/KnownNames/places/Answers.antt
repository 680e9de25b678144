use Rattle.std.proofs.Common.{List, ℕ, sym, subst}
use Rattle.json_text.specs.Grammar.{Member}
use Rattle.text_parsers.specs.Inner.Known.{unset_with, names_at, AreAt}
use Rattle.text_parsers.proofs.Known.{are_at_seen}
use Rattle.text_parsers.proofs.known_names.KnownNames.places.Goals as goal

pub returns : goal.returns
returns c =
    let known = c.self.inside in
    let names = names_at known.unset.entries known.places.items in
    let stand = subst (λ (l : List Member). AreAt l names known.places.items) c.self.invariant.unset_is (are_at_seen known.unset.entries names known.places.items c.self.invariant.stand) in
    subst (λ (l : List ℕ). AreAt (unset_with c.args.self.now) c.args.self.now l) (sym c.as_slice.ensures.value)
    (subst (λ (l : List (List ℕ)). AreAt (unset_with l) l known.places.items) c.self.view_is stand)
