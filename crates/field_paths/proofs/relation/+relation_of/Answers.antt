use Rattle.std.proofs.Common.{ℕ, List, ◌∷◌, ◌++◌, ◌∙◌, ap, sym}
use Rattle.field_paths.proofs.Cases.{nothing_left}
use Rattle.field_paths.proofs.relation.+relation_of.Goals as goal

pub returns-in_default : goal.returns-in_default
returns-in_default t c =
    let others = c.args.others.now in
    (others, ap (λ (l : List (List ℕ)). l ++ others) (sym (nothing_left c.args.names.now c.in_default.ensures.cases)))

pub returns-in_default-split_first : goal.returns-in_default-split_first
returns-in_default-split_first t c =
    let name = c.in-Some.name.now in
    let rest = c.in-Some.rest.now in
    (name, rest, c.in-Some.ensures.cases.0 ∙ ap (λ (l : List (List ℕ)). l ++ name ∷ rest) (sym (nothing_left c.args.others.now c.in_default-split_first.ensures.cases)))
