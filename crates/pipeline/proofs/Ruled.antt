-- A built pipeline is rules.
use Rattle.std.proofs.Common.{◌≡◌, ℕ, ◌+◌, ◌<◌, ◌^◌, ℤ, pos, negsuc, List, [], ◌++◌, length, Bool, true, false, true≢false, nat_lt, ◌&&◌, Option, None, Some, refl, sym, ap, ◌∙◌}
use Rattle.std.proofs.lemmas.Bool.{ltb-true}
use Rattle.entry_model.specs.Datum.{Datum, null, boolean, int, text, list, fields, Items, no_items, item, Members, no_members, member}
use Rattle.entry_model.specs.LogRecord.{LogRecord}
use Rattle.graph_core.specs.Traces.{Network, network_of, inputs}
use Rattle.graph_core.specs.declared.NodeSpec.{NodeSpec}
use Rattle.op_kinds.proofs.StateTexts.{text_back, text_is_state, state_stands}
use Rattle.op_kinds.specs.Kept.{Kept}
use Rattle.op_kinds.specs.Operator.{Operator, behavior_of}
use Rattle.op_kinds.specs.StateTexts.{states_in, state_text, is_state_text}
use Rattle.op_kinds.specs.States.{kinds_of, AreOfKinds}
use Rattle.otlp_json.specs.IsOf64Bits.{IsInteger, HasIntegers, ItemsHaveIntegers, MembersHaveIntegers, IsTime, IsOf64Bits}
use Rattle.pipeline.proofs.Feeding.{GraphLaws, given_on, kept_on}
use Rattle.pipeline.proofs.StateKinds.{kinds_kept}
use Rattle.pipeline.specs.AsRules.{is_integer, has_integers, items_have_integers, members_have_integers, is_time, is_of_64_bits, fits}
use Rattle.pipeline.specs.Entries.{records_behind}
use Rattle.pipeline.specs.GraphOutput.{kept_from, given_from}
use Rattle.settings_text.specs.declared.settings.Settings.{Settings}
use Rattle.standing.specs.Marks.{Mark}

-- ---- numbers

pub both : (a b : Bool) → (a && b) ≡ true → (a ≡ true) × (b ≡ true)
both true b is = (refl, is)
both false b is = absurd (true≢false (sym is))

integer : (z : ℤ) → is_integer z ≡ true → IsInteger z
integer (pos n) is = ltb-true n (2 ^ 63) is
integer (negsuc n) is = ltb-true n (2 ^ 63) is

mutual
  integers : (d : Datum) → has_integers d ≡ true → HasIntegers d
  integers null is = tt
  integers (boolean b) is = tt
  integers (int z) is = integer z is
  integers (text bytes) is = tt
  integers (list items) is = items_integers items is
  integers (fields members) is = members_integers members is

  items_integers : (items : Items) → items_have_integers items ≡ true → ItemsHaveIntegers items
  items_integers no_items is = tt
  items_integers (item first rest) is =
      let parts = both (has_integers first) (items_have_integers rest) is in
      (integers first parts.0, items_integers rest parts.1)

  members_integers : (members : Members) → members_have_integers members ≡ true → MembersHaveIntegers members
  members_integers no_members is = tt
  members_integers (member key value rest) is =
      let parts = both (has_integers value) (members_have_integers rest) is in
      (integers value parts.0, members_integers rest parts.1)

time : (timestamp : Option ℕ) → is_time timestamp ≡ true → IsTime timestamp
time None is = tt
time (Some nanoseconds) is = ltb-true nanoseconds (2 ^ 64) is

of_64_bits : (entry : LogRecord) → is_of_64_bits entry ≡ true → IsOf64Bits entry
of_64_bits entry is =
    let body = both (has_integers entry.body) _ is in
    let attributes = both (members_have_integers entry.attributes) _ body.1 in
    let resource = both (members_have_integers entry.resource) _ attributes.1 in
    let timestamp = both (is_time entry.timestamp) _ resource.1 in
    record {
      body = integers entry.body body.0;
      attributes = members_integers entry.attributes attributes.0;
      resource = members_integers entry.resource resource.0;
      timestamp = time entry.timestamp timestamp.0;
      severity = ltb-true entry.severity (2 ^ 64) timestamp.1;
    }

pub record FitsWhole (mark : Mark) : Type 0 where
  pub id : mark.id < 2 ^ 64
  pub number : mark.number < 2 ^ 64
  pub time : IsTime mark.observed
  pub entry : IsOf64Bits mark.entry

pub fits_whole : (mark : Mark) → fits mark ≡ true → FitsWhole mark
fits_whole mark is =
    let id = both (nat_lt mark.id (2 ^ 64)) _ is in
    let number = both (nat_lt mark.number (2 ^ 64)) _ id.1 in
    let observed = both (is_time mark.observed) _ number.1 in
    record { id = ltb-true mark.id (2 ^ 64) id.0; number = ltb-true mark.number (2 ^ 64) number.0; time = time mark.observed observed.0; entry = of_64_bits mark.entry observed.1 }

pub same_mark : (mark other : Mark) → mark.id ≡ other.id → mark.number ≡ other.number → mark.observed ≡ other.observed → mark.entry ≡ other.entry → mark ≡ other
same_mark mark other id number observed entry =
    ap (λ i. let m : Mark = record { id = i; number = mark.number; observed = mark.observed; entry = mark.entry } in m) id
    ∙ ap (λ n. let m : Mark = record { id = other.id; number = n; observed = mark.observed; entry = mark.entry } in m) number
    ∙ ap (λ (t : Option ℕ). let m : Mark = record { id = other.id; number = other.number; observed = t; entry = mark.entry } in m) observed
    ∙ ap (λ (e : LogRecord). let m : Mark = record { id = other.id; number = other.number; observed = other.observed; entry = e } in m) entry

-- ---- states

module _ (settings : Settings) (nodes : List (NodeSpec Operator)) (graph : GraphLaws (network_of behavior_of nodes)) where
  abbrev it : Network Kept LogRecord
  it = network_of behavior_of nodes

  -- the states for which a text stands
  abbrev states_of : List ℕ → List Kept
  states_of state = states_in (kinds_of nodes) state

  abbrev kept : List ℕ → ℕ → List ℕ → List (List ℕ) → List Kept
  kept path before state tokens = kept_from settings it path before (states_of state) tokens

  kinds_then : (path : List ℕ) (before : ℕ) (state : List ℕ) (tokens : List (List ℕ)) → is_state_text (kinds_of nodes) state ≡ true → AreOfKinds nodes (kept path before state tokens)
  kinds_then path before state tokens is = kinds_kept nodes (states_of state) (inputs it (records_behind settings path before tokens)) (state_stands (kinds_of nodes) state is).are

  back : (path : List ℕ) (before : ℕ) (state : List ℕ) (tokens : List (List ℕ)) → is_state_text (kinds_of nodes) state ≡ true → states_of (state_text (kept path before state tokens)) ≡ kept path before state tokens
  back path before state tokens is = text_back (kinds_of nodes) (kept path before state tokens) (kinds_then path before state tokens is)

  pub goes_on_so : (path : List ℕ) (before : ℕ) (state : List ℕ) (tokens : List (List ℕ)) → is_state_text (kinds_of nodes) state ≡ true → is_state_text (kinds_of nodes) (state_text (kept path before state tokens)) ≡ true
  goes_on_so path before state tokens is = text_is_state (kinds_of nodes) (kept path before state tokens) (kinds_then path before state tokens is)

  pub given_in_parts : (path : List ℕ) (before : ℕ) (state : List ℕ) (tokens more : List (List ℕ)) → is_state_text (kinds_of nodes) state ≡ true
      → given_from settings it path before (states_of state) (tokens ++ more)
      ≡ given_from settings it path before (states_of state) tokens ++ given_from settings it path (before + length tokens) (states_of (state_text (kept path before state tokens))) more
  given_in_parts path before state tokens more is =
      given_on settings it graph path before (states_of state) tokens more
      ∙ ap (λ (ks : List Kept). given_from settings it path before (states_of state) tokens ++ given_from settings it path (before + length tokens) ks more) (sym (back path before state tokens is))

  pub stays_so : (path : List ℕ) (before : ℕ) (state : List ℕ) → is_state_text (kinds_of nodes) state ≡ true → state_text (kept path before state []) ≡ state
  stays_so path before state is = ap state_text (sym (graph.begin (states_of state) []).states) ∙ (state_stands (kinds_of nodes) state is).same

  pub kept_in_parts : (path : List ℕ) (before : ℕ) (state : List ℕ) (tokens more : List (List ℕ)) → is_state_text (kinds_of nodes) state ≡ true
      → state_text (kept path before state (tokens ++ more)) ≡ state_text (kept path (before + length tokens) (state_text (kept path before state tokens)) more)
  kept_in_parts path before state tokens more is =
      ap state_text
      (kept_on settings it graph path before (states_of state) tokens more
      ∙ ap (λ (ks : List Kept). kept_from settings it path (before + length tokens) ks more) (sym (back path before state tokens is)))
