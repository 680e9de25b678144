use Rattle.std.proofs.Common.{◌≡◌, ℕ, ◌-◌, ◌∙◌, sym, subst, take, drop, arith, inl, inr, true≢false}
use Rattle.field_paths.specs.PathText.{IsPathText}
use Rattle.field_paths.specs.ReadFault.{IsReadFault}
use Rattle.expr_lang.proofs.lexer.path.Goals as goal

pub returns-in-Err-NotAPath : goal.returns-in-Err-NotAPath
returns-in-Err-NotAPath c = λ word n t. elim t [
  | inl k ↦ absurd (true≢false (sym c.requires.begins ∙ k.0))
  | inr k ↦
      let arm = c.in-Err-NotAPath in
      let fault = subst (IsReadFault c.range.result.now) arm.field-0-is arm.ensures.fault in
      let count : n ≡ c.path_end-end.result - c.args.at = (let e = c.path_end-end.ensures.end in omega (arith, e, k.1)) in
      fault.no_path k.2.0 (rw c.range.ensures.value (subst (λ (m : ℕ). IsPathText (take m (drop c.args.at c.args.text.now)) k.2.0) count k.2.2))
]
