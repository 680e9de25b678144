use Rattle.std.proofs.Common.{◌≡◌, ◌+◌, ◌++◌, ℕ, List, [], ◌∷◌, map, subst, sym, ap, ◌∙◌}
use Rattle.std.proofs.lemmas.List.{map-append}
use Rattle.kept_lines.specs.Split.{AreEmpty}
use Rattle.kept_lines.proofs.Texts.{empty_more}
use Rattle.kept_lines.proofs.splitting.empty_texts.Goals as goal

pub loop-preserved : goal.loop-preserved
loop-preserved c =
    let before = c.loop.texts.items in
    subst (λ (xs : List (List ℕ)). AreEmpty (c.loop.counter + 1) xs) (sym (ap (λ xs. map (λ text. text.items) xs) c.in_ok-push.ensures.items ∙ map-append (λ text. text.items) before (c.new.result ∷ [])))
    (empty_more c.loop.counter (map (λ text. text.items) before) c.new.result.items c.new.ensures.items c.loop.invariant)
