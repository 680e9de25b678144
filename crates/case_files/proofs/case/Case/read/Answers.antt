use Rattle.std.proofs.Common.{ℕ, List, ◌∷◌, ◌++◌, ap, ◌∙◌}
use Rattle.case_files.proofs.case.Case.read.Goals as goal

pub returns : goal.returns
returns c = record {
  head = c.in-Some.head.now;
  input = c.in-Some-parts_at.input.now;
  parts = c.in-Some.ensures ∙ ap (λ (rest : List ℕ). c.in-Some.head.now ++ 10 ∷ rest) c.in-Some-parts_at.ensures;
}
