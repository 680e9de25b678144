use Rattle.std.proofs.Common.{◌≡◌, ℕ, List, true, ◌-◌, ◌∙◌, ap, sym, subst, take, drop, arith}
use Rattle.field_paths.specs.PathText.{IsPathText, IsFaultAt}
use Rattle.field_paths.specs.ReadFault.{IsReadFault}
use Rattle.expr_lang.specs.Inner.BrokenWords.{is_path}
use Rattle.expr_lang.specs.declared.lexer.Spot.TheVariants as spot
use Rattle.expr_lang.specs.Longest.{IsSpelling, IsLongest}
use Rattle.expr_lang.specs.Row.{path_length}
use Rattle.expr_lang.proofs.PathFronts.{path_longest, path_fault_longest}
use Rattle.expr_lang.proofs.place.rooted_length.Goals as goal
use Rattle.expr_lang.proofs.place.rooted_length.Goals.{in-Ok, in-Err-NotAPath, in-Err-Memory}

pub returns : goal.returns
returns c =
    let rest = drop c.args.at c.args.text.now in
    let count : c.path_end-end.result - c.args.at ≡ path_length spot.Name rest = (let e = c.path_end-end.ensures.end in omega (arith, e)) in
    let range : c.range.result.now ≡ take (path_length spot.Name rest) rest = c.range.ensures.value ∙ ap (λ (k : ℕ). take k rest) count in
    elim c.match-read.branch [
      | in-Ok w ↦
          let place = w.in-Ok.field-0 in
          let is : IsPathText (take (path_length spot.Name rest) rest) place = subst (λ (l : List ℕ). IsPathText l place) range w.in-Ok.ensures.ok in
          rw w.result-is (subst (IsLongest (IsSpelling (λ w. is_path w ≡ true)) rest) (sym count) (path_longest rest place c.requires.begins is))
      | in-Err-NotAPath w ↦
          let fault : IsFaultAt c.range.result.now w.in-Err-NotAPath.at = subst (IsReadFault c.range.result.now) w.in-Err-NotAPath.field-0-is w.in-Err-NotAPath.ensures.fault in
          rw w.result-is (path_fault_longest rest w.in-Err-NotAPath.at c.requires.begins (subst (λ (l : List ℕ). IsFaultAt l w.in-Err-NotAPath.at) range fault))
      | in-Err-Memory w ↦ rw w.result-is tt
    ]
