-- The rules of pipelines, as those of eras.
use Rattle.std.proofs.Common.{◌≡◌, ℕ, zero, suc, ◌+◌, ◌<◌, List, [], ◌∷◌, Some, None, length, map, refl, ap, ◌∙◌, subst, arith}
use Rattle.std.specs.Prelude.{Option, All, slice_get}
use Rattle.std.proofs.lemmas.List.{length-map}
use Rattle.pipeline.specs.AsRules.{rules_of}
use Rattle.pipeline.specs.declared.Pipeline.{Pipeline}
use Rattle.standing.specs.Eras.{Eras, last_era}
use Rattle.standing.specs.Rules.{Rules}
use Rattle.auditor.specs.Inner.Compared.{mark_line}
use Rattle.auditor.specs.RowHolds.{AreErasFrom}
use Rattle.auditor.proofs.Bounds.{UsesSome}
use Rattle.auditor.proofs.Running.{tokens_use_some}
use Rattle.auditor.proofs.Standing.{AreRulesFrom, of_text, one_some, later_rules, last_are}

record PipeAt (pipes : List Pipeline) (place : ℕ) (rules : Rules) : Type 0 where
  pipe : Pipeline
  at : slice_get pipes place ≡ Some pipe
  is : rules_of [] pipe ≡ rules

pipe_at : (pipes : List Pipeline) (place : ℕ) (rules : Rules) → slice_get (map (rules_of []) pipes) place ≡ Some rules → PipeAt pipes place rules
pipe_at [] place rules there = absurd (let never : ◌≡◌ {A = Option Rules} None (Some rules) = there in cc)
pipe_at (pipe ∷ pipes) zero rules there = record { pipe = pipe; at = refl; is = one_some (rules_of [] pipe) rules there }
pipe_at (pipe ∷ pipes) (suc place) rules there = let rest = pipe_at pipes place rules there in record { pipe = rest.pipe; at = rest.at; is = rest.is }

pub rules_from : (eras : Eras) (born : ℕ) (pipes : List Pipeline) → AreErasFrom eras born pipes → AreRulesFrom eras born (map (rules_of []) pipes)
rules_from eras born pipes are = record {
  to_last = ap (λ n. born + n) (length-map pipes (rules_of [])) ∙ are.to_last;
  each = λ place rules there.
      let found = pipe_at pipes place rules there in
      let era = are.each place found.pipe found.at in
      (era.0, era.1 ∙ ap (λ (r : Rules). Some (of_text era.0 r)) found.is);
  use_some = λ place rules there content.
      let found = pipe_at pipes place rules there in
      subst (λ (r : Rules). All UsesSome (r.cuts content)) found.is (tokens_use_some found.pipe content);
}

-- the lines are spelled as under any settings
pub last_line : (eras : Eras) (era : ℕ) (pipes : List Pipeline) → AreRulesFrom eras era (map (rules_of []) pipes) → 0 < length pipes → (last_era eras).line ≡ mark_line
last_line eras era [] are some = absurd (omega (arith, some))
last_line eras era (pipe ∷ []) are some = ap (λ (r : Rules). r.line) (last_are eras era (rules_of [] pipe) are).1
last_line eras era (pipe ∷ next ∷ pipes) are some =
    last_line eras (era + 1) (next ∷ pipes) (later_rules eras era (rules_of [] pipe) (map (rules_of []) (next ∷ pipes)) are) (omega arith)
