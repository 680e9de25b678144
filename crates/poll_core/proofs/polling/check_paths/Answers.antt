use Rattle.std.proofs.Common.{◌≡◌, ℕ, List, [], get_or, subst, ◌∙◌, arith, inl, inr}
use Rattle.std.proofs.lemmas.Bool.{cases_lt}
use Rattle.std.proofs.lemmas.List.{get_or_default}
use Rattle.state_codec.specs.Rules.{IsShortText}
use Rattle.poll_core.proofs.polling.check_paths.Goals as goal

pub loop-path-preserved : goal.loop-path-preserved
loop-path-preserved c = λ place early.
    let paths = c.args.paths.now in
    let index = c.loop-path.path-index in
    elim (cases_lt place index) [
      | inl before ↦ c.loop-path.invariant place before
      | inr late ↦
          (let here : index ≡ place = omega (arith, late, early) in
          let item : c.path-item.result ≡ get_or paths index [] = c.path-item.is ∙ get_or_default paths index c.path-item.result [] (omega (arith, c.loop-path-test.true)) in
          subst (λ (n : ℕ). IsShortText (get_or paths n [])) here (subst (λ (path : List ℕ). IsShortText path) item (c.is_short.ensures.short (cc (c.if-not-is_short.false)))))
    ]

pub returns : goal.returns
returns c = λ path there.
    let paths = c.args.paths.now in
    subst (λ (text : List ℕ). IsShortText text) (get_or_default paths there.0 [] path there.1 ∙ there.2) (c.loop-path.invariant there.0 (omega (arith, there.1, c.loop-path-test.false)))
