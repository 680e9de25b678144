use Rattle.std.proofs.Common.{◌≡◌, ℕ, List, IfOk, subst}
use Rattle.pipeline.specs.AsRules.{rules_of}
use Rattle.pipeline.proofs.foreign.has_state.Goals as goal

pub returns : goal.returns
returns c =
    subst (λ (kept : List ℕ). IfOk c.is_state.result (λ is. (text : List ℕ) → is ≡ (rules_of text c.args.pipeline.now).is_state kept)) c.as_slice.ensures c.is_state.ensures
