use Rattle.std.proofs.Common.{[], ◌∷◌, ◌++◌, sym, ◌∙◌, refl, inr, append_assoc}
use Rattle.container_parser.proofs.split.last_component.Goals as goal

pub returns-in-Some-clause-is : goal.returns-in-Some-clause-is
returns-in-Some-clause-is c =
    let front = c.in-Some.field-0-0.now in
    (front ++ 47 ∷ [], c.in-Some.ensures.parts ∙ sym (append_assoc front (47 ∷ []) c.in-Some.component.now), inr (front, refl))
