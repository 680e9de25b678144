-- Feeding, token by token.
use Rattle.std.proofs.Common.{◌≡◌, ℕ, ◌+◌, ◌<◌, List, [], ◌∷◌, ◌++◌, length, drop, refl, sym, ◌∙◌, ap, subst, arith, append_assoc, length-append}
use Rattle.std.proofs.lemmas.List.{append-nil, map-append}
use Rattle.std.proofs.lemmas.List.Sums.{sum_by-cons}
use Rattle.std.specs.Prelude.{Option}
use Rattle.entry_model.specs.LogRecord.{LogRecord}
use Rattle.graph_core.specs.declared.Target.{Target}
use Rattle.graph_core.specs.Traces.{Network, states_after, outputs, start_states, inputs, Served}
use Rattle.op_kinds.specs.Kept.{Kept}
use Rattle.line_splitter.specs.Cuts.{Cut, cuts, texts, used_by}
use Rattle.otlp_json.specs.OutputLines.{output_lines}
use Rattle.pipeline.specs.Entries.{records_of, record_with, records_behind, text_of}
use Rattle.pipeline.specs.Fed.{Fed, GoesOn}
use Rattle.pipeline.specs.GraphOutput.{graph_output, kept_from, given_from, StandsFor}
use Rattle.pipeline.specs.Origin.{Origin}
use Rattle.pipeline.specs.NextToken.{BeginsWith}
use Rattle.pipeline.specs.declared.state.FileState.{FileState}
use Rattle.settings_text.specs.declared.settings.Settings.{Settings}

-- the laws of lines in a row and of requests after requests, as the crates that make them state them
pub record LineLaws : Type 0 where
  pub none : (id number : ℕ) (observed : Option ℕ) → output_lines id number observed [] ≡ []
  pub append : (id number : ℕ) (observed : Option ℕ) (front back : List LogRecord)
      → output_lines id number observed (front ++ back) ≡ output_lines id number observed front ++ output_lines id (number + length front) observed back

pub record GraphLaws (network : Network Kept LogRecord) : Type 0 where
  pub begin : (from : List Kept) (before : List LogRecord) → Served network from before (inputs network []) from before
  pub states : (from : List Kept) (earlier later : List (Target × Option LogRecord)) → states_after network from (earlier ++ later) ≡ states_after network (states_after network from earlier) later
  pub items : (from : List Kept) (earlier later : List (Target × Option LogRecord)) → outputs network from (earlier ++ later) ≡ outputs network from earlier ++ outputs network (states_after network from earlier) later

records_append : (settings : Settings) (path : List ℕ) (n : ℕ) (a b : List (List ℕ)) → records_behind settings path n (a ++ b) ≡ records_behind settings path n a ++ records_behind settings path (n + length a) b
records_append settings path n [] b = ap (λ k. records_behind settings path k b) (omega arith)
records_append settings path n (token ∷ a) b =
    ap (λ rest. records_of settings path (n + 1) (text_of settings token) ++ rest)
    (records_append settings path (n + 1) a b ∙ ap (λ k. records_behind settings path (n + 1) a ++ records_behind settings path k b) (omega arith))
    ∙ sym (append_assoc (records_of settings path (n + 1) (text_of settings token)) (records_behind settings path (n + 1) a) (records_behind settings path (n + length (token ∷ a)) b))

module _ (settings : Settings) (network : Network Kept LogRecord) (path : List ℕ) (graph : GraphLaws network) where
  pub inputs_append : (n : ℕ) (a b : List (List ℕ)) (m : ℕ) → m ≡ n + length a → inputs network (records_behind settings path n (a ++ b)) ≡ inputs network (records_behind settings path n a) ++ inputs network (records_behind settings path m b)
  inputs_append n a b m e =
      ap (inputs network) (records_append settings path n a b)
      ∙ map-append _ (records_behind settings path n a) (records_behind settings path (n + length a) b)
      ∙ ap (λ k. inputs network (records_behind settings path n a) ++ inputs network (records_behind settings path k b)) (sym e)

module _ (settings : Settings) (network : Network Kept LogRecord) (origin : Origin) (graph : GraphLaws network) where
  pub fed_none : (lines : LineLaws) (state : FileState) (out : List ℕ) → Fed settings network origin [] state state out out
  fed_none lines state out = record {
    made = [];
    served = graph.begin state.states.items [];
    records = omega arith;
    lines = omega arith;
    written = sym (append-nil out) ∙ ap (λ t. out ++ t) (sym (lines.none origin.id (state.lines + 1) origin.time));
  }

  pub fed_then : (laws : LineLaws) (a b : List (List ℕ)) (s m t : FileState) (o q r : List ℕ) → Fed settings network origin a s m o q → Fed settings network origin b m t q r → Fed settings network origin (a ++ b) s t o r
  fed_then laws a b s m t o q r first next =
      let joined = inputs_append settings network origin.path graph s.records a b m.records first.records in
      let front = inputs network (records_behind settings origin.path s.records a) in
      let back = inputs network (records_behind settings origin.path m.records b) in
      record {
        made = first.made ++ next.made;
        served = record {
          states = next.served.states ∙ ap (λ from. states_after network from back) first.served.states ∙ sym (graph.states s.states.items front back) ∙ ap (states_after network s.states.items) (sym joined);
          items =
              ap (λ x. x ++ next.made) first.served.items
              ∙ ap (λ x. outputs network s.states.items front ++ x) (next.served.items ∙ ap (λ from. outputs network from back) first.served.states)
              ∙ sym (graph.items s.states.items front back) ∙ ap (outputs network s.states.items) (sym joined);
        };
        records = omega (arith, first.records, next.records, length-append a b);
        lines = omega (arith, first.lines, next.lines, length-append first.made next.made);
        written =
            next.written ∙ ap (λ x. x ++ output_lines origin.id (m.lines + 1) origin.time next.made) first.written
            ∙ append_assoc o (output_lines origin.id (s.lines + 1) origin.time first.made) (output_lines origin.id (m.lines + 1) origin.time next.made)
            ∙ ap (λ x. o ++ x) (ap (λ n. output_lines origin.id (s.lines + 1) origin.time first.made ++ output_lines origin.id n origin.time next.made) (omega (arith, first.lines)) ∙ sym (laws.append origin.id (s.lines + 1) origin.time first.made next.made));
      }

  pub goes_on : (earlier more : List (List ℕ)) (s t : FileState) (o r : List ℕ) → StandsFor settings network origin.path earlier s → Fed settings network origin more s t o r → GoesOn settings network origin earlier more t o r
  goes_on earlier more s t o r stands fed =
      let joined = inputs_append settings network origin.path graph 0 earlier more s.records (omega (arith, stands.records)) in
      let start = start_states network in
      let front = inputs network (records_behind settings origin.path 0 earlier) in
      let back = inputs network (records_behind settings origin.path s.records more) in
      let past : graph_output settings network origin.path (earlier ++ more) ≡ graph_output settings network origin.path earlier ++ fed.made =
      ap (outputs network start) joined ∙ graph.items start front back ∙ ap (λ x. outputs network start front ++ x) (ap (λ from. outputs network from back) (sym stands.states) ∙ sym fed.served.items) in
      record {
        stands = record {
          states = fed.served.states ∙ ap (λ from. states_after network from back) stands.states ∙ sym (graph.states start front back) ∙ ap (states_after network start) (sym joined);
          records = omega (arith, fed.records, stands.records, length-append earlier more);
          lines = omega (arith, fed.lines, stands.lines, ap length past, length-append (graph_output settings network origin.path earlier) fed.made);
        };
        made = fed.made;
        past = past;
        written = fed.written ∙ ap (λ n. o ++ output_lines origin.id (n + 1) origin.time fed.made) stands.lines;
      }

-- some tokens of the bytes were fed, and those of the rest are left
pub record FeedsOn (settings : Settings) (network : Network Kept LogRecord) (first : List ℕ → Option Cut) (origin : Origin) (bytes rest : List ℕ) (at : ℕ) (before after : FileState) (out grown : List ℕ) : Type 0 where
  pub done : List (List ℕ)
  pub left : texts (cuts first bytes) ≡ done ++ texts (cuts first rest)
  pub used_so_far : used_by (cuts first bytes) ≡ at + used_by (cuts first rest)
  pub fed : Fed settings network origin done before after out grown

module _ (settings : Settings) (network : Network Kept LogRecord) (first : List ℕ → Option Cut) (origin : Origin) (graph : GraphLaws network) (laws : LineLaws) (bytes : List ℕ) (s : FileState) (o : List ℕ) where
  pub feeds_from_start : FeedsOn settings network first origin bytes bytes 0 s s o o
  feeds_from_start = record { done = []; left = refl; used_so_far = omega arith; fed = fed_none settings network origin graph laws s o }

  pub feeds_token : (rest : List ℕ) (at : ℕ) (c : Cut) (m t : FileState) (q r : List ℕ) → BeginsWith first rest c → FeedsOn settings network first origin bytes rest at s m o q → Fed settings network origin (c.text ∷ []) m t q r → FeedsOn settings network first origin bytes (drop c.used rest) (at + c.used) s t o r
  feeds_token rest at c m t q r begins so_far next = record {
    done = so_far.done ++ c.text ∷ [];
    left = so_far.left ∙ ap (λ cs. so_far.done ++ texts cs) begins.cuts_follow ∙ sym (append_assoc so_far.done (c.text ∷ []) (texts (cuts first (drop c.used rest))));
    used_so_far = omega (arith, so_far.used_so_far, ap used_by begins.cuts_follow, sum_by-cons (λ (d : Cut). d.used) c (cuts first (drop c.used rest)));
    fed = fed_then settings network origin graph laws so_far.done (c.text ∷ []) s m t o q r so_far.fed next;
  }

  pub feeds_all : (rest : List ℕ) (at : ℕ) (t : FileState) (r : List ℕ) → cuts first rest ≡ [] → FeedsOn settings network first origin bytes rest at s t o r → (at ≡ used_by (cuts first bytes)) × Fed settings network origin (texts (cuts first bytes)) s t o r
  feeds_all rest at t r ends so_far =
      let all : so_far.done ≡ texts (cuts first bytes) = sym (so_far.left ∙ ap (λ cs. so_far.done ++ texts cs) ends ∙ append-nil so_far.done) in
      (omega (arith, so_far.used_so_far, ap used_by ends), subst (λ ts. Fed settings network origin ts s t o r) all so_far.fed)

pub prefix_kept : (settings : Settings) (network : Network Kept LogRecord) → GraphLaws network → (path : List ℕ) (earlier more : List (List ℕ)) → (rest : List LogRecord) × (graph_output settings network path (earlier ++ more) ≡ graph_output settings network path earlier ++ rest)
prefix_kept settings network graph path earlier more =
    let start = start_states network in
    let front = inputs network (records_behind settings path 0 earlier) in
    let back = inputs network (records_behind settings path (length earlier) more) in
    (outputs network (states_after network start front) back, ap (outputs network start) (inputs_append settings network path graph 0 earlier more (length earlier) (omega arith)) ∙ graph.items start front back)

-- one list of tokens after another
pub kept_on : (settings : Settings) (network : Network Kept LogRecord) → GraphLaws network → (path : List ℕ) (before : ℕ) (states : List Kept) (earlier later : List (List ℕ))
    → kept_from settings network path before states (earlier ++ later) ≡ kept_from settings network path (before + length earlier) (kept_from settings network path before states earlier) later
kept_on settings network graph path before states earlier later =
    ap (states_after network states) (inputs_append settings network path graph before earlier later (before + length earlier) refl)
    ∙ graph.states states (inputs network (records_behind settings path before earlier)) (inputs network (records_behind settings path (before + length earlier) later))

pub given_on : (settings : Settings) (network : Network Kept LogRecord) → GraphLaws network → (path : List ℕ) (before : ℕ) (states : List Kept) (earlier later : List (List ℕ))
    → given_from settings network path before states (earlier ++ later) ≡ given_from settings network path before states earlier ++ given_from settings network path (before + length earlier) (kept_from settings network path before states earlier) later
given_on settings network graph path before states earlier later =
    ap (outputs network states) (inputs_append settings network path graph before earlier later (before + length earlier) refl)
    ∙ graph.items states (inputs network (records_behind settings path before earlier)) (inputs network (records_behind settings path (before + length earlier) later))

-- the records of one token
pub record_none : (settings : Settings) (path : List ℕ) (before : ℕ) (token : List ℕ) → text_of settings token ≡ [] → records_behind settings path before (token ∷ []) ≡ []
record_none settings path before token empty = ap (λ body. records_of settings path (before + 1) body ++ []) empty

pub record_one : (settings : Settings) (path : List ℕ) (before : ℕ) (token : List ℕ) → 0 < length (text_of settings token) → records_behind settings path before (token ∷ []) ≡ record_with settings path (before + 1) (text_of settings token) ∷ []
record_one settings path before token some = append-nil _ ∙ by (text_of settings token) some
  where
    by : (body : List ℕ) → 0 < length body → records_of settings path (before + 1) body ≡ record_with settings path (before + 1) body ∷ []
    by [] some = absurd (omega (arith, some))
    by (byte ∷ more) some = refl

-- a token with a record, which went through the network
pub one_fed : (settings : Settings) (network : Network Kept LogRecord) (origin : Origin) (token : List ℕ) (record_of_it : LogRecord) (made : List LogRecord) (s t : FileState) (o r : List ℕ)
    → records_behind settings origin.path s.records (token ∷ []) ≡ record_of_it ∷ [] → Served network s.states.items [] (inputs network (record_of_it ∷ [])) t.states.items made
    → t.records ≡ s.records + 1 → t.lines ≡ s.lines + length made → r ≡ o ++ output_lines origin.id (s.lines + 1) origin.time made → Fed settings network origin (token ∷ []) s t o r
one_fed settings network origin token record_of_it made s t o r one served records lines written = record {
  made = made;
  served = subst (λ rs. Served network s.states.items [] (inputs network rs) t.states.items made) (sym one) served;
  records = records;
  lines = lines;
  written = written;
}
