-- Why settings give no pipeline.
use Rattle.std.specs.Prelude.{◌≡◌, ◌≢◌, ⊤, ℕ, ◌<◌, List, length, take, false, true, Ok, Some, slice_get}
use Rattle.graph_core.specs.Faults.{IsCause}
use Rattle.graph_core.specs.Wiring.{edges_of, wiring_of}
use Rattle.graph_core.specs.declared.GraphFault.{GraphFault}
use Rattle.graph_core.specs.declared.NodeSpec.{NodeSpec}
use Rattle.op_kinds.specs.Compilable.{IsCompilable}
use Rattle.op_kinds.specs.Compiled.{IsCompiledTo}
use Rattle.op_kinds.specs.Operator.{Operator}
use Rattle.op_kinds.specs.Readings.{IsLeastCause, readings}
use Rattle.op_kinds.specs.declared.cause.OpCause.{OpCause}
use Rattle.op_kinds.specs.declared.cause.OpCause.TheVariants as cause
use Rattle.glob_match.specs.Pattern.{Pattern}
use Rattle.pipeline.specs.Globs.{ArePatterns, IsNoGlobAt}
use Rattle.pipeline.specs.Splitters.{HasPattern, HasNoPattern}
use Rattle.pipeline.specs.Wired.{AreNodes, ids_of}
use Rattle.pipeline.specs.declared.fault.BuildFault.{BuildFault}
use Rattle.pipeline.specs.declared.fault.BuildFault.TheVariants.{Glob, Multiline, SameId, Operator as RefusesOperator, Graph, Memory}
use Rattle.settings_text.specs.Grammar.{settings}
use Rattle.settings_text.specs.Ids.{is_taken}
use Rattle.settings_text.specs.declared.settings.OpSpec.{OpSpec}
use Rattle.settings_text.specs.declared.settings.Settings.{Settings}

abbrev pub ids_before : List OpSpec → ℕ → List (List ℕ)
ids_before operators place = ids_of (take place operators)

-- the operator at this place has an id that none before it has, and can be made
pub record IsFineAt (operators : List OpSpec) (place : ℕ) : Type 0 where
  pub spec : OpSpec
  pub there : slice_get operators place ≡ Some spec
  pub new_id : is_taken spec.id (ids_before operators place) ≡ false
  pub operator : Operator
  pub compiled : IsCompiledTo spec operator

-- the first operator that isn't fine has the id of one before it
pub record HasSameId (operators : List OpSpec) (place : ℕ) : Type 0 where
  pub fine_before : (k : ℕ) → k < place → IsFineAt operators k
  pub spec : OpSpec
  pub there : slice_get operators place ≡ Some spec
  pub taken : is_taken spec.id (ids_before operators place) ≡ true

-- the first operator that isn't fine has a new id, and this fault
pub record IsFirstFaulty (Faulty : OpSpec → Type 0) (operators : List OpSpec) (place : ℕ) : Type 0 where
  pub fine_before : (k : ℕ) → k < place → IsFineAt operators k
  pub spec : OpSpec
  pub there : slice_get operators place ≡ Some spec
  pub new_id : is_taken spec.id (ids_before operators place) ≡ false
  pub faulty : Faulty spec

abbrev pub IsRefusal : List OpSpec → ℕ → OpCause → Type 0
IsRefusal operators place found = (found ≢ cause.Memory) × IsFirstFaulty (λ spec. IsLeastCause (readings spec) found) operators place

-- every operator is fine, and the graph of their nodes has this fault
pub record HasGraphFault (operators : List OpSpec) (fault : GraphFault) : Type 0 where
  pub fine : (k : ℕ) → k < length operators → IsFineAt operators k
  pub nodes : List (NodeSpec Operator)
  pub are : AreNodes operators nodes
  pub cause : IsCause (edges_of (wiring_of nodes)) fault

abbrev pub IsOperatorFault : List OpSpec → BuildFault → Type 0
IsOperatorFault operators (Glob exclude place at) = ⊥
IsOperatorFault operators Multiline = ⊥
IsOperatorFault operators (SameId place) = HasSameId operators place
IsOperatorFault operators (RefusesOperator place found) = IsRefusal operators place found
IsOperatorFault operators (Graph fault) = HasGraphFault operators fault
IsOperatorFault operators Memory = ⊤

abbrev pub AreGlobs : List (List ℕ) → Type 0
AreGlobs texts = (patterns : List Pattern) × ArePatterns texts patterns

-- The includes are read before the excludes, then comes the pattern of lines, and then the operators.
abbrev pub IsBuildFault : Settings → BuildFault → Type 0
IsBuildFault settings (Glob false place at) = IsNoGlobAt settings.include place at
IsBuildFault settings (Glob true place at) = AreGlobs settings.include × IsNoGlobAt settings.exclude place at
IsBuildFault settings Multiline = AreGlobs settings.include × (AreGlobs settings.exclude × HasNoPattern settings.multiline)
IsBuildFault settings Memory = ⊤
IsBuildFault settings fault =
    AreGlobs settings.include × (AreGlobs settings.exclude × (HasPattern settings.multiline × IsOperatorFault settings.operators fault))

-- the text says settings of which no operators can be made, for this reason
pub record IsNotBuilt (text : List ℕ) (fault : BuildFault) : Type 0 where
  pub said : Settings
  pub said_is : settings text ≡ Ok said
  pub cause : IsBuildFault said fault

-- the fault that tells why the operator at a place can't be made
abbrev pub refusal : ℕ → OpCause → BuildFault
refusal place cause.Memory = Memory
refusal place (cause.Path at) = RefusesOperator place (cause.Path at)
refusal place (cause.Expr at) = RefusesOperator place (cause.Expr at)
refusal place cause.Pattern = RefusesOperator place cause.Pattern
refusal place (cause.Layout at) = RefusesOperator place (cause.Layout at)
refusal place cause.NoNames = RefusesOperator place cause.NoNames

-- each operator can be made, where the texts in it can be read
abbrev pub AreCompilable : List OpSpec → Type 0
AreCompilable operators = (place : ℕ) (operator : OpSpec) → slice_get operators place ≡ Some operator → IsCompilable operator.kind
