-- The nodes of operators, one after another.
use Rattle.std.proofs.Common.{◌≡◌, ◌≢◌, ◌⊎◌, ℕ, zero, suc, ◌+◌, ◌<◌, ◌≤◌, List, [], ◌∷◌, ◌++◌, length, map, take, get_or, Bool, true, false, true≢false, ◌||◌, inl, inr, refl, sym, ◌∙◌, ap, subst, arith, add-one, rules}
use Rattle.std.proofs.lemmas.List.{map-append, take_all}
use Rattle.std.proofs.lemmas.Option.{slice_get_within, get_or_from_slice_get, slice_get_read}
use Rattle.std.proofs.Math.Seq.{take-suc}
use Rattle.std.proofs.lemmas.Slice.Eq.{bytes_eq-Decides}
use Rattle.std.specs.List.{list_any}
use Rattle.std.specs.Prelude.{Some, slice_get, not, if◌then◌else◌}
use Rattle.std.specs.Str.{bytes_eq}
use Rattle.std.proofs.Common.{Bor}
use Rattle.std.proofs.lemmas.Bool.{cases_lt}
use Rattle.graph_core.specs.declared.NodeSpec.{NodeSpec}
use Rattle.entry_model.specs.LogRecord.{LogRecord}
use Rattle.graph_core.specs.Traces.{Network, network_of}
use Rattle.graph_core.specs.Wiring.{wiring_of}
use Rattle.op_kinds.proofs.Compiled.{one_operator}
use Rattle.op_kinds.specs.Kept.{Kept}
use Rattle.op_kinds.specs.Operator.{Operator, behavior_of}
use Rattle.pipeline.specs.BuildFaults.{AreGlobs, IsBuildFault, IsFineAt, IsOperatorFault, ids_before, refusal}
use Rattle.op_kinds.specs.Compiled.{IsCompiledTo}
use Rattle.op_kinds.specs.declared.cause.OpCause.{OpCause}
use Rattle.op_kinds.specs.declared.cause.OpCause.TheVariants as cause
use Rattle.op_kinds.specs.Readings.{Caused, readings}
use Rattle.pipeline.specs.Splitters.{HasPattern}
use Rattle.pipeline.specs.declared.fault.BuildFault.{BuildFault}
use Rattle.pipeline.specs.declared.fault.BuildFault.TheVariants as fault
use Rattle.settings_text.specs.declared.settings.Settings.{Settings}
use Rattle.pipeline.specs.Listed.{ArePaired, AreOperatorsFrom}
use Rattle.pipeline.specs.Wired.{IsNode, AreNodes, AreFirstNodes, HaveOwnIds, IsNetwork, ids_of}
use Rattle.settings_text.specs.Ids.{is_taken}
use Rattle.settings_text.specs.declared.settings.OpSpec.{OpSpec}

-- a name among keys behind references
among : (name : List ℕ) (keys : List (Bor (List ℕ))) → list_any (bytes_eq name) (map (λ key. key.now) keys) ≡ list_any (λ key. bytes_eq name key.now) keys
among name [] = refl
among name (key ∷ keys) = rw (among name keys) refl

-- an element of a list with one more at its end is one of the list, or that one
pub last_or_before : {A : Type 0} (xs : List A) (y x : A) (k : ℕ) → slice_get (xs ++ y ∷ []) k ≡ Some x → (slice_get xs k ≡ Some x) ⊎ ((k ≡ length xs) × (x ≡ y))
last_or_before {A = A} [] y x k at = by k at
  where
    by : (n : ℕ) → slice_get (y ∷ []) n ≡ Some x → (slice_get {X = A} [] n ≡ Some x) ⊎ ((n ≡ 0) × (x ≡ y))
    by zero is = inr (refl, search (rules, is))
    by (suc n) is = inl is
last_or_before (z ∷ xs) y x zero at = inl at
last_or_before (z ∷ xs) y x (suc k) at = elim (last_or_before xs y x k at) [
  | inl before ↦ inl before
  | inr last ↦ inr (ap suc last.0, last.1)
]

pub one_more_pair : {A B : Type 0} (Belongs : A → B → Type 0) (xs : List A) (ys new : List B) (x : A) (y : B) (count : ℕ)
    → length ys ≡ count → ArePaired Belongs xs ys → slice_get xs count ≡ Some x → Belongs x y → new ≡ ys ++ y ∷ [] → ArePaired Belongs xs new
one_more_pair {A = A} Belongs xs ys new x y count many so_far there next is place other made at of_new =
    elim (last_or_before ys y made place (rw is at of_new)) [
      | inl before ↦ so_far place other made at before
      | inr last ↦ subst (λ b. Belongs other b) (sym last.1) (subst (λ a. Belongs a y) (same (last.0 ∙ many) at) next)
    ]
  where
    same : place ≡ count → slice_get xs place ≡ Some other → x ≡ other
    same e here = search (rules, there, here, e)

pub one_more_node : (operators : List OpSpec) (nodes new : List (NodeSpec Operator)) (spec : OpSpec) (node : NodeSpec Operator)
    → AreFirstNodes operators nodes → slice_get operators (length nodes) ≡ Some spec → IsNode operators (length nodes) spec node → new ≡ nodes ++ node ∷ [] → AreFirstNodes operators new
one_more_node operators nodes new spec node so_far there next is place other made at of_new =
    elim (last_or_before nodes node made place (rw is at of_new)) [
      | inl before ↦ so_far place other made at before
      | inr last ↦ subst (λ n. IsNode operators place other n) (sym last.1) (subst (λ k. IsNode operators k other node) (sym last.0) (subst (λ s. IsNode operators (length nodes) s node) (same last.0 at) next))
    ]
  where
    same : place ≡ length nodes → slice_get operators place ≡ Some other → spec ≡ other
    same e here = search (rules, there, here, e)

-- without the first of them
pub operators_behind : (specs : List OpSpec) (from : ℕ) (first : Operator) (operators all : List Operator) → all ≡ first ∷ operators → AreOperatorsFrom from specs all → AreOperatorsFrom (from + 1) specs operators
operators_behind specs from first operators all is are place spec operator at of_rest =
    are (suc place) spec operator (subst (λ k. slice_get specs k ≡ Some spec) (omega arith) at) (rw is of_rest)

pub first_operator : (specs : List OpSpec) (from : ℕ) (spec : OpSpec) (first : Operator) (operators all : List Operator) → all ≡ first ∷ operators → AreOperatorsFrom from specs all → slice_get specs from ≡ Some spec → IsCompiledTo spec first
first_operator specs from spec first operators all is are there =
    are 0 spec first (subst (λ k. slice_get specs k ≡ Some spec) (omega arith) there) (rw is refl)

-- what a list of settings has at a place
pub spec_at : {A : Type 0} (specs : List A) (place : ℕ) (spec : A) → place < length specs → spec ≡ get_or specs place spec → slice_get specs place ≡ Some spec
spec_at specs place spec within at = slice_get_read specs (length specs) place spec refl within at

pub one_more_id : (operators : List OpSpec) (place : ℕ) (spec : OpSpec) → slice_get operators place ≡ Some spec → ids_before operators (place + 1) ≡ ids_before operators place ++ spec.id ∷ []
one_more_id operators place spec there =
    let within = slice_get_within operators place spec there in
    let grown : take (place + 1) operators ≡ take place operators ++ spec ∷ [] = rw (add-one, take-suc operators place spec within, get_or_from_slice_get operators place spec spec there) refl in
    ap (map (λ operator. operator.id)) grown ∙ map-append (λ operator. operator.id) (take place operators) (spec ∷ [])

-- whether a text is among the ids, which a set of references holds
pub tested : (keys : List (Bor (List ℕ))) (k : Bor (List ℕ)) (ids : List (List ℕ)) (added : Bool) → map (λ id. id.now) keys ≡ ids → added ≡ not (list_any (λ q. bytes_eq k.now q.now) keys) → is_taken k.now ids ≡ not added
tested keys k ids added are is =
    ap (is_taken k.now) (sym are) ∙ among k.now keys ∙ not_twice (list_any (λ q. bytes_eq k.now q.now) keys) ∙ ap not (sym is)
  where
    not_twice : (b : Bool) → b ≡ not (not b)
    not_twice true = refl
    not_twice false = refl

pub grown : (keys new : List (Bor (List ℕ))) (k : Bor (List ℕ)) (ids : List (List ℕ)) → map (λ id. id.now) keys ≡ ids → is_taken k.now ids ≡ false → new ≡ (if list_any (λ q. bytes_eq k.now q.now) keys then keys else keys ++ k ∷ []) → map (λ id. id.now) new ≡ ids ++ k.now ∷ []
grown keys new k ids are fresh is =
    let none : list_any (λ q. bytes_eq k.now q.now) keys ≡ false = sym (among k.now keys) ∙ ap (is_taken k.now) are ∙ fresh in
    let longer : new ≡ keys ++ k ∷ [] = is ∙ ap (λ b. if b then keys else keys ++ k ∷ []) none in
    ap (map (λ id. id.now)) longer ∙ map-append (λ id. id.now) keys (k ∷ []) ∙ ap (λ l. l ++ k.now ∷ []) are

pub one_more_fine : (operators : List OpSpec) (place : ℕ) → ((k : ℕ) → k < place → IsFineAt operators k) → IsFineAt operators place → (k : ℕ) → k < place + 1 → IsFineAt operators k
one_more_fine operators place fine next k within = elim (cases_lt k place) [
  | inl before ↦ fine k before
  | inr last ↦ subst (IsFineAt operators) (omega (arith, within, last)) next
]

-- the operator at this place can't be made
pub refused : (operators : List OpSpec) (place : ℕ) (spec : OpSpec) (found : OpCause) → ((k : ℕ) → k < place → IsFineAt operators k) → slice_get operators place ≡ Some spec → is_taken spec.id (ids_before operators place) ≡ false
    → Caused (readings spec) found → IsOperatorFault operators (refusal place found)
refused operators place spec (cause.Path at) fine there new_id given =
    let some : cause.Path at ≢ cause.Memory = λ is. cc is in
    (some, record { fine_before = fine; spec = spec; there = there; new_id = new_id; faulty = given some })
refused operators place spec (cause.Expr at) fine there new_id given =
    let some : cause.Expr at ≢ cause.Memory = λ is. cc is in
    (some, record { fine_before = fine; spec = spec; there = there; new_id = new_id; faulty = given some })
refused operators place spec cause.Pattern fine there new_id given =
    let some : cause.Pattern ≢ cause.Memory = λ is. cc is in
    (some, record { fine_before = fine; spec = spec; there = there; new_id = new_id; faulty = given some })
refused operators place spec (cause.Layout at) fine there new_id given =
    let some : cause.Layout at ≢ cause.Memory = λ is. cc is in
    (some, record { fine_before = fine; spec = spec; there = there; new_id = new_id; faulty = given some })
refused operators place spec cause.NoNames fine there new_id given =
    let some : cause.NoNames ≢ cause.Memory = λ is. cc is in
    (some, record { fine_before = fine; spec = spec; there = there; new_id = new_id; faulty = given some })
refused operators place spec cause.Memory fine there new_id given = tt

pub all_ids : (operators : List OpSpec) (place : ℕ) (ids : List (List ℕ)) → length operators ≤ place → ids ≡ ids_before operators place → ids ≡ ids_of operators
all_ids operators place ids within is = is ∙ ap ids_of (take_all place operators within)

-- ---- ids

taken_before : (operators : List OpSpec) (place count : ℕ) (one : OpSpec) (id : List ℕ) → slice_get operators place ≡ Some one → place < count → one.id ≡ id → is_taken id (ids_of (take count operators)) ≡ true
taken_before [] place count one id there before same = absurd (search (rules, there))
taken_before (o ∷ operators) place zero one id there before same = absurd (omega (arith, before))
taken_before (o ∷ operators) zero (suc count) one id there before same =
    let is : o ≡ one = search (rules, there) in
    let found : bytes_eq id o.id ≡ true = rw (ap (λ (x : OpSpec). x.id) is ∙ same) ((bytes_eq-Decides id id).1 refl) in
    rw found refl
taken_before (o ∷ operators) (suc place) (suc count) one id there before same =
    let later = taken_before operators place count one id there (omega (arith, before)) same in
    or_true (bytes_eq id o.id) (is_taken id (ids_of (take count operators))) later
  where
    or_true : (a b : Bool) → b ≡ true → (a || b) ≡ true
    or_true true b is = refl
    or_true false b is = is

not_before : (operators : List OpSpec) → ((k : ℕ) → k < length operators → IsFineAt operators k) → (place other : ℕ) (one another : OpSpec) → slice_get operators place ≡ Some one → slice_get operators other ≡ Some another → one.id ≡ another.id → place < other → ⊥
not_before operators fine place other one another at also same before =
    let here = fine other (slice_get_within operators other another also) in
    let is : here.spec ≡ another = search (rules, here.there, also) in
    let taken = taken_before operators place other one another.id at before same in
    true≢false (sym taken ∙ ap (λ (s : OpSpec). is_taken s.id (ids_before operators other)) (sym is) ∙ here.new_id)

pub own_ids : (operators : List OpSpec) → ((k : ℕ) → k < length operators → IsFineAt operators k) → HaveOwnIds operators
own_ids operators fine place other one another at also same = elim (cases_lt place other) [
  | inl before ↦ absurd (not_before operators fine place other one another at also same before)
  | inr not_before_it ↦ elim (cases_lt other place) [
    | inl behind ↦ absurd (not_before operators fine other place another one also at (sym same) behind)
    | inr last ↦ omega (arith, not_before_it, last)
  ]
]

-- ---- one network

same_maps : {A B : Type 0} (f : A → B) (xs ys : List A) → length xs ≡ length ys → ((k : ℕ) (x y : A) → slice_get xs k ≡ Some x → slice_get ys k ≡ Some y → f x ≡ f y) → map f xs ≡ map f ys
same_maps f [] [] many same = refl
same_maps f [] (y ∷ ys) many same = absurd (omega (arith, many))
same_maps f (x ∷ xs) [] many same = absurd (omega (arith, many))
same_maps f (x ∷ xs) (y ∷ ys) many same =
    let first : f x ≡ f y = same 0 x y refl refl in
    let rest : map f xs ≡ map f ys = same_maps f xs ys (omega (arith, many)) (λ k a b at also. same (suc k) a b at also) in
    cc (first, rest)

slice_get_there : {A : Type 0} (xs : List A) (k : ℕ) → k < length xs → (x : A) × (slice_get xs k ≡ Some x)
slice_get_there [] k within = absurd (omega (arith, within))
slice_get_there (x ∷ xs) zero within = (x, refl)
slice_get_there (x ∷ xs) (suc k) within = slice_get_there xs k (omega (arith, within))

module _ (operators : List OpSpec) (xs ys : List (NodeSpec Operator)) (are : AreNodes operators xs) (also : AreNodes operators ys) where
  at_place : {B : Type 0} (f : NodeSpec Operator → B) → ((place : ℕ) (spec : OpSpec) (x y : NodeSpec Operator) → IsNode operators place spec x → IsNode operators place spec y → f x ≡ f y) → map f xs ≡ map f ys
  at_place f same = same_maps f xs ys (are.many ∙ sym also.many) (λ k x y at of_y.
      let within : k < length operators = omega (arith, slice_get_within xs k x at, are.many) in
      let spec = slice_get_there operators k within in
      same k spec.0 x y (are.each k spec.0 x spec.1 at) (also.each k spec.0 y spec.1 of_y))

  same_wiring : wiring_of xs ≡ wiring_of ys
  same_wiring = at_place (λ node. map (λ port. port.items) node.ports.items) (λ place spec x y is of_y. is.wired ∙ sym of_y.wired)

  same_behaviors : map (λ (node : NodeSpec Operator). behavior_of node.op) xs ≡ map (λ (node : NodeSpec Operator). behavior_of node.op) ys
  same_behaviors = at_place (λ node. behavior_of node.op) (λ place spec x y is of_y. ap behavior_of (one_operator spec x.op y.op is.compiled of_y.compiled))

  pub same_networks : network_of behavior_of xs ≡ network_of behavior_of ys
  same_networks =
      ap (λ w. let n : Network Kept LogRecord = record { wiring = w; behaviors = map (λ (node : NodeSpec Operator). behavior_of node.op) xs } in n) same_wiring
      ∙ ap (λ b. let n : Network Kept LogRecord = record { wiring = wiring_of ys; behaviors = b } in n) same_behaviors

pub one_network : (operators : List OpSpec) (network other : Network Kept LogRecord) → IsNetwork operators network → IsNetwork operators other → network ≡ other
one_network operators network other is also = is.is ∙ same_networks operators is.nodes also.nodes is.are also.are ∙ sym also.is

-- why operators give no network is why their settings give no pipeline, where the globs and the pattern of lines are read
pub operators_refused : (settings : Settings) (found : BuildFault) → AreGlobs settings.include → AreGlobs settings.exclude → HasPattern settings.multiline
    → IsOperatorFault settings.operators found → IsBuildFault settings found
operators_refused settings (fault.Glob exclude place at) include exclude_too pattern is = absurd is
operators_refused settings fault.Multiline include exclude pattern is = absurd is
operators_refused settings (fault.SameId place) include exclude pattern is = (include, (exclude, (pattern, is)))
operators_refused settings (fault.Operator place cause) include exclude pattern is = (include, (exclude, (pattern, is)))
operators_refused settings (fault.Graph found) include exclude pattern is = (include, (exclude, (pattern, is)))
operators_refused settings fault.Memory include exclude pattern is = tt
