use Rattle.std.proofs.Common.{◌≡◌, ℕ, List, [], ◌∷◌, ◌++◌, length, sym, ap, subst, ◌∙◌, append-nil, arith}
use Rattle.std.specs.Vec.Iter.{into_iter_items}
use Rattle.entry_model.specs.declared.value.Value.{Value}
use Rattle.entry_model.specs.Places.{NamesAscend}
use Rattle.entry_model.proofs.Ends.{spread_more, nothing_left}
use Rattle.entry_model.proofs.builder.spread.Goals as goal

pub loop-name-preserved : goal.loop-name-preserved
loop-name-preserved c =
    let at = c.loop-name in
    let steps : into_iter_items at.name-iterator ≡ (c.in-Some.name, c.in-Some.value) ∷ into_iter_items c.next.new.self = c.in-Some.ensures.steps.0 in
    let all = c.into_iter-name-iterator.ensures.into_iter_gives.0 ∙ c.into_members-name-items.ensures.members in
    let ordered = subst (λ (es : List (List ℕ × Value)). NamesAscend es) (sym all) c.into_members-name-items.ensures.ordered in
    record {
      members = spread_more (into_iter_items c.into_iter-name-iterator.result) at.many.entries (into_iter_items c.next.new.self) c.put.new.many.entries c.in-Some.name c.in-Some.value
          ordered (ap (λ (l : List (List ℕ × Value)). at.many.entries ++ l) (sym steps) ∙ at.invariant.members) c.in_ok-put.ensures;
      len = (
          let was = at.invariant.len in
          let gone = c.in-Some.ensures.steps.1 in
          let short = ap length steps in
          omega (arith, was, gone, short)
          );
    }

pub returns : goal.returns
returns c =
    let at = c.loop-name in
    let empty : into_iter_items at.name-iterator ≡ [] = nothing_left _ (sym at.invariant.len ∙ c.in-None.ensures.steps.0) in
    sym (append-nil at.many.entries) ∙ ap (λ (l : List (List ℕ × Value)). at.many.entries ++ l) (sym empty) ∙ at.invariant.members
    ∙ c.into_iter-name-iterator.ensures.into_iter_gives.0 ∙ c.into_members-name-items.ensures.members
