use Rattle.std.proofs.Common.{◌≡◌, ◌==◌, length, true, false, ◌∙◌, ap}
use Rattle.std.proofs.lemmas.Bool.Decides.{Decides-eqb}
use Rattle.std.proofs.lemmas.Slice.Eq.{strip_prefix_is, strip_suffix_is}
use Rattle.std.specs.Prelude.{Some, codes}
use Rattle.tree_walk.proofs.Naming.{part_of_output}
use Rattle.tree_walk.proofs.own_names.is_part_of_output.Goals as goal

pub returns-then-not-is_empty : goal.returns-then-not-is_empty
returns-then-not-is_empty c =
    let front = strip_prefix_is Decides-eqb c.args.path.now (codes "output.") (Some c.in-Some.rest) (rw c.as_slice.ensures at c.in-Some.ensures.cases) in
    let back = strip_suffix_is Decides-eqb c.in-Some.rest.now (codes ".jsonl") (Some c.in-Some-strip_suffix.digits) (rw c.as_slice-2.ensures at c.in-Some-strip_suffix.ensures.cases) in
    part_of_output c.args.path.now c.in-Some.rest.now c.in-Some-strip_suffix.digits.now c.are_digits.result front back (λ empty. let never : false ≡ true = c.if-not-is_empty.ensures ∙ ap (λ l. length l == 0) empty in cc) c.are_digits.ensures
