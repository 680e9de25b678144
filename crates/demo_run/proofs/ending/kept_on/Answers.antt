use Rattle.std.proofs.Common.{◌∙◌, ap, refl, length, Some}
use Rattle.demo_run.specs.Shown.{lines_of}
use Rattle.demo_run.proofs.Sums.{lines_fit}
use Rattle.demo_run.proofs.ending.kept_on.Goals as goal

pub sum_of_lines-requires : goal.sum_of_lines-requires
sum_of_lines-requires c = rw c.as_slice-rows.ensures (lines_fit _ c.in-Ok-Some.checkpoint (rw c.in-Ok-Some.field-0-is at c.in-Ok-Some.ensures.lawful))

pub returns-in-Ok-Some : goal.returns-in-Ok-Some
returns-in-Ok-Some c = record {
  checkpoint = Some c.in-Ok-Some.checkpoint;
  has = (c.in-Ok-Some.field-0-0-0, rw c.in-Ok-Some.field-0-is at (c.in-Ok-Some.ensures.found refl));
  files_are = ap length c.as_slice-rows.ensures;
  lines_are = c.sum_of_lines.ensures ∙ ap lines_of c.as_slice-rows.ensures;
  output_is = refl;
}
