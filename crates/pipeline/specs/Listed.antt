-- Lists that stand beside each other, and the operators of a list of settings.
use Rattle.std.specs.Prelude.{◌≡◌, ℕ, ◌+◌, List, length, Some, slice_get}
use Rattle.op_kinds.specs.Compiled.{IsCompiledTo}
use Rattle.op_kinds.specs.Operator.{Operator}
use Rattle.settings_text.specs.declared.settings.OpSpec.{OpSpec}

-- what stands at one place of both lists belongs together
abbrev pub ArePaired : {A B : Type 0} → (A → B → Type 0) → List A → List B → Type 0
ArePaired {A = A} {B = B} Belongs xs ys = (place : ℕ) (x : A) (y : B) → slice_get xs place ≡ Some x → slice_get ys place ≡ Some y → Belongs x y

-- each of these is the operator of the settings at its place
abbrev pub AreFirstOperators : List OpSpec → List Operator → Type 0
AreFirstOperators specs operators = ArePaired IsCompiledTo specs operators

-- each of these is the operator of the settings that stand so many places further on
abbrev pub AreOperatorsFrom : ℕ → List OpSpec → List Operator → Type 0
AreOperatorsFrom from specs operators = (place : ℕ) (spec : OpSpec) (operator : Operator)
    → slice_get specs (from + place) ≡ Some spec → slice_get operators place ≡ Some operator → IsCompiledTo spec operator

pub record AreOperators (specs : List OpSpec) (operators : List Operator) : Type 0 where
  pub many : length operators ≡ length specs
  pub each : AreFirstOperators specs operators
