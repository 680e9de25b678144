use Rattle.std.proofs.Common.{◌≡◌, ◌∷◌, [], ◌++◌, ◌∙◌, ◌+◌, ap, sym, subst, inl, inr, List, ℕ, map, take}
use Rattle.std.proofs.lemmas.List.{map-append}
use Rattle.std.proofs.lemmas.List.Elements.{Contains-push_cases}
use Rattle.std.specs.Prelude.{Contains}
use Rattle.glob_match.specs.Leading.{LeadsToMatches}
use Rattle.glob_match.specs.Pattern.{Pattern}
use Rattle.glob_match.specs.Start.{start}
use Rattle.tree_walk.proofs.Lists.{one_more}
use Rattle.tree_walk.proofs.starts.starts.Goals as goal

pub loop-glob-preserved : goal.loop-glob-preserved
loop-glob-preserved c =
    let before : List Pattern = take c.loop-glob.glob-index c.args.include.now in
    let glob : Pattern = c.glob-item.result in
    let one : take (c.loop-glob.glob-index + 1) c.args.include.now ≡ before ++ glob ∷ [] = one_more (λ (_ : Pattern). Unit {0}) c.args.include.now c.loop-glob.glob-index glob c.loop-glob-test.true c.glob-item.is in
    record {
      starts = c.in_ok-push.ensures.items ∙ ap (λ (t : List (List ℕ)). t ++ c.in_ok-new.field-0 ∷ []) c.loop-glob.invariant.starts ∙ ap (λ (t : List ℕ). map start before ++ t ∷ []) (c.in_ok-new.ensures ∙ c.in_ok-start.ensures)
          ∙ sym (map-append start before (glob ∷ [])) ∙ ap (map start) (sym one);
      leads = λ other h. elim (Contains-push_cases before glob other (subst (λ (xs : List Pattern). Contains xs other) one h)) [
        | inl earlier ↦ c.loop-glob.invariant.leads other earlier
        | inr same ↦ subst LeadsToMatches same c.leads_to_matches.ensures
      ];
    }
