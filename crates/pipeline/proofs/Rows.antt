-- What feeding does to the state of a row.
use Rattle.std.proofs.Common.{◌≡◌, ℕ, zero, suc, ◌+◌, ◌<◌, get_or, arith, List, [], ◌∷◌, ◌++◌, Bool, true, false, true≢false, length, drop, map, refl, sym, ap, subst, ◌∙◌, append_assoc, length-append}
use Rattle.std.proofs.lemmas.Slice.Eq.{bytes_eq-Decides}
use Rattle.std.proofs.Math.Seq.{drop-append_seam}
use Rattle.std.specs.List.{list_all}
use Rattle.std.specs.Prelude.{Option, flat_map}
use Rattle.std.specs.Str.{bytes_eq}
use Rattle.entry_model.specs.LogRecord.{LogRecord}
use Rattle.graph_core.specs.Traces.{network_of, start_states, states_after, outputs, inputs, closings}
use Rattle.graph_core.specs.declared.NodeSpec.{NodeSpec}
use Rattle.idle_flush.specs.Rests.{rest_cuts}
use Rattle.line_splitter.specs.Cuts.{Cut, texts, used_by}
use Rattle.op_kinds.proofs.States.{fresh_spelled}
use Rattle.op_kinds.proofs.StateTexts.{told_in, text_back, text_is_state, spelled_tells, fresh_bytes}
use Rattle.op_kinds.specs.Kept.{Kept, nothing, groups, keeps_groups, is_fresh, fresh_kept}
use Rattle.op_kinds.specs.Operator.{Operator, behavior_of, has_groups}
use Rattle.op_kinds.specs.StateTexts.{states_in, state_text, is_state_text, Tells}
use Rattle.op_kinds.specs.States.{kinds_of, fresh_states, AreOfKinds, HaveSpellings, Spell, states_spelling}
use Rattle.otlp_json.specs.OutputLine.{output_line}
use Rattle.otlp_json.specs.OutputLines.{output_lines}
use Rattle.pipeline.proofs.Feeding.{LineLaws}
use Rattle.pipeline.proofs.StateKinds.{kinds_kept}
use Rattle.pipeline.specs.AsRules.{rules_of}
use Rattle.pipeline.specs.Closed.{Finished, last_tokens}
use Rattle.pipeline.specs.Entries.{records_behind}
use Rattle.pipeline.specs.Fed.{Fed}
use Rattle.pipeline.specs.GraphOutput.{kept_from, given_from}
use Rattle.pipeline.specs.Origin.{origin_of}
use Rattle.pipeline.specs.Parts.{settings_of, network}
use Rattle.pipeline.specs.RowStates.{IsStateOfRow, TakesTokens, TakesRest, rest_made}
use Rattle.pipeline.specs.Tokens.{cuts_of, tokens_of}
use Rattle.pipeline.specs.declared.Pipeline.{Pipeline}
use Rattle.pipeline.specs.declared.state.FileState.{FileState}
use Rattle.standing.specs.Marks.{Mark, numbered}
use Rattle.standing.specs.Poll.{Poll}
use Rattle.standing.specs.Rows.{Row}
use Rattle.standing.specs.Rules.{Rules}
use Rattle.state_codec.proofs.Numbers.{IsBytes, bytes_after}

-- the law of lines in a row, as the crate that makes them states it
pub record RowLines : Type 0 where
  pub none : (id number : ℕ) (observed : Option ℕ) → output_lines id number observed [] ≡ []
  pub more : (id number : ℕ) (observed : Option ℕ) (first : LogRecord) (rest : List LogRecord)
      → output_lines id number observed (first ∷ rest) ≡ output_line id number observed first ++ output_lines id (number + 1) observed rest

marks_are_lines : RowLines → (id number : ℕ) (time : Option ℕ) (made : List LogRecord) → output_lines id number time made ≡ flat_map (λ (mark : Mark). output_line mark.id mark.number mark.observed mark.entry) (numbered id number time made)
marks_are_lines laws id number time [] = laws.none id number time
marks_are_lines laws id number time (first ∷ rest) = laws.more id number time first rest ∙ ap (λ t. output_line id number time first ++ t) (marks_are_lines laws id (number + 1) time rest)

-- what these tokens gave and left, from the states for which the row's text stands
record Went (pipeline : Pipeline) (row : Row) (tokens : List (List ℕ)) (made : List LogRecord) (states : List Kept) : Type 0 where
  given : made ≡ given_from (settings_of pipeline) (network pipeline) row.path row.records (states_in (kinds_of pipeline.graph) row.state) tokens
  kept : states ≡ kept_from (settings_of pipeline) (network pipeline) row.path row.records (states_in (kinds_of pipeline.graph) row.state) tokens
  kinds : AreOfKinds pipeline.graph states

went_so : (pipeline : Pipeline) (row : Row) (time : Option ℕ) (tokens : List (List ℕ)) (before after : FileState) (out_before out_after : List ℕ) → IsStateOfRow pipeline row before
    → (fed : Fed (settings_of pipeline) (network pipeline) (origin_of row.id row.path time) tokens before after out_before out_after) → Went pipeline row tokens fed.made after.states.items
went_so pipeline row time tokens before after out_before out_after is fed =
    let settings = settings_of pipeline in
    let nodes = pipeline.graph in
    let net = network pipeline in
    let from = states_in (kinds_of nodes) row.state in
    let begun : before.states.items ≡ from = sym (told_in nodes row.state before.states.items is.states) in
    record {
      given =
          fed.served.items ∙ ap (λ n. outputs net before.states.items (inputs net (records_behind settings row.path n tokens))) is.records_are
          ∙ ap (λ (ks : List Kept). outputs net ks (inputs net (records_behind settings row.path row.records tokens))) begun;
      kept =
          fed.served.states ∙ ap (λ n. states_after net before.states.items (inputs net (records_behind settings row.path n tokens))) is.records_are
          ∙ ap (λ (ks : List Kept). states_after net ks (inputs net (records_behind settings row.path row.records tokens))) begun;
      kinds = subst (AreOfKinds nodes) (sym fed.served.states) (kinds_kept nodes before.states.items (inputs net (records_behind settings row.path before.records tokens)) is.states.kinds);
    }

-- the poll with the rules that it has
abbrev ruled_by : Rules → Poll → Poll
ruled_by rules poll = record { rules = rules; era = poll.era; first = poll.first; stamp = poll.stamp }

pub row_fed : RowLines → (pipeline : Pipeline) (settings_text bytes : List ℕ) (poll : Poll) (row : Row) (before after : FileState) (out_before out_after : List ℕ) → poll.rules ≡ rules_of settings_text pipeline → IsStateOfRow pipeline row before
    → Fed (settings_of pipeline) (network pipeline) (origin_of row.id row.path poll.stamp) (tokens_of (settings_of pipeline) bytes) before after out_before out_after
    → TakesTokens pipeline poll bytes row after out_before out_after
row_fed laws pipeline settings_text bytes poll row before after out_before out_after rules is fed =
    let settings = settings_of pipeline in
    let tokens = tokens_of settings bytes in
    let went = went_so pipeline row poll.stamp tokens before after out_before out_after is fed in
    let given : List LogRecord = given_from settings (network pipeline) row.path row.records (states_in (kinds_of pipeline.graph) row.state) tokens in
    let same : ruled_by (rules_of settings_text pipeline) poll ≡ poll = ap (λ (r : Rules). ruled_by r poll) (sym rules) in
    subst (λ (p : Poll). TakesTokens pipeline p bytes row after out_before out_after) same (record {
      state = record {
        states = record { kinds = went.kinds; told = ap state_text (sym went.kept) };
        records_are = fed.records ∙ ap (λ n. n + length tokens) is.records_are;
        lines_are = fed.lines ∙ ap (λ n. n + length fed.made) is.lines_are ∙ ap (λ (m : List LogRecord). row.lines + length m) went.given;
      };
      written =
          fed.written
          ∙ ap (λ t. out_before ++ t)
          (ap (λ n. output_lines row.id (n + 1) poll.stamp fed.made) is.lines_are ∙ ap (λ (m : List LogRecord). output_lines row.id (row.lines + 1) poll.stamp m) went.given
          ∙ marks_are_lines laws row.id (row.lines + 1) poll.stamp given);
    })

-- ---- the first states

pub first_states : (nodes : List (NodeSpec Operator)) → start_states (network_of behavior_of nodes) ≡ fresh_states (kinds_of nodes)
first_states [] = refl
first_states (node ∷ nodes) = ap (λ (ks : List Kept). fresh_kept (has_groups node.op) ∷ ks) (first_states nodes)

pub first_spelled : (nodes : List (NodeSpec Operator)) → Spell nodes (states_spelling (start_states (network_of behavior_of nodes))) (start_states (network_of behavior_of nodes))
first_spelled nodes = subst (λ (ks : List Kept). Spell nodes (states_spelling ks) ks) (sym (first_states nodes)) (fresh_spelled (kinds_of nodes))

pub first_bytes : (nodes : List (NodeSpec Operator)) → IsBytes (states_spelling (start_states (network_of behavior_of nodes)))
first_bytes nodes = subst (λ (ks : List Kept). IsBytes (states_spelling ks)) (sym (first_states nodes)) (fresh_bytes (kinds_of nodes))

pub first_told : (nodes : List (NodeSpec Operator)) → Tells nodes (states_spelling (start_states (network_of behavior_of nodes))) (start_states (network_of behavior_of nodes))
first_told nodes = spelled_tells nodes (states_spelling (start_states (network_of behavior_of nodes))) (start_states (network_of behavior_of nodes)) (first_bytes nodes) (first_spelled nodes)

-- ---- which texts are a state

pub is_told : (nodes : List (NodeSpec Operator)) (text : List ℕ) (states : List Kept) → Tells nodes text states → is_state_text (kinds_of nodes) text ≡ true
is_told nodes text states tells = subst (λ (t : List ℕ). is_state_text (kinds_of nodes) t ≡ true) (sym tells.told) (text_is_state (kinds_of nodes) states tells.kinds)

pub one_told : (nodes : List (NodeSpec Operator)) (text : List ℕ) (states others : List Kept) → Tells nodes text states → Tells nodes text others → states ≡ others
one_told nodes text states others tells also = sym (told_in nodes text states tells) ∙ told_in nodes text others also

-- ---- a rest that is flushed

pub row_flushed : RowLines → LineLaws → (pipeline : Pipeline) (settings_text bytes : List ℕ) (poll : Poll) (row : Row) (before after : FileState × List ℕ) → poll.rules ≡ rules_of settings_text pipeline → IsStateOfRow pipeline row before.0
    → poll.rules.cuts bytes ≡ [] → Finished pipeline (origin_of row.id row.path poll.stamp) bytes before after → TakesRest pipeline poll bytes row before.1 after
row_flushed laws append pipeline settings_text bytes poll row before after rules is none finished =
    let settings = settings_of pipeline in
    let nodes = pipeline.graph in
    let net = network pipeline in
    let its : Rules = rules_of settings_text pipeline in
    let tokens : List (List ℕ) = its.rest bytes in
    let between = finished.between in
    let closed = finished.closed in
    let no_cuts : cuts_of settings bytes ≡ [] = ap (λ (r : Rules). r.cuts bytes) (sym rules) ∙ none in
    let all : last_tokens settings bytes ≡ tokens = ap (λ (cs : List Cut). texts cs ++ texts (rest_cuts settings.max_log_size (drop (used_by cs) bytes))) no_cuts in
    let fed : Fed settings net (origin_of row.id row.path poll.stamp) tokens before.0 between before.1 finished.out_between =
    subst (λ (ts : List (List ℕ)). Fed settings net (origin_of row.id row.path poll.stamp) ts before.0 between before.1 finished.out_between) all finished.fed in
    let went = went_so pipeline row poll.stamp tokens before.0 between before.1 finished.out_between is fed in
    let back : states_in (kinds_of nodes) (its.state_after row.path row.records row.state tokens) ≡ between.states.items =
    ap (states_in (kinds_of nodes)) (ap state_text (sym went.kept)) ∙ text_back (kinds_of nodes) between.states.items went.kinds in
    let held : closed.made ≡ its.closed (its.state_after row.path row.records row.state tokens) =
    closed.served.items ∙ ap (λ (ks : List Kept). outputs net ks (closings net)) (sym back) in
    let made : fed.made ++ closed.made ≡ rest_made its bytes row =
    ap (λ (m : List LogRecord). m ++ closed.made) went.given ∙ ap (λ (m : List LogRecord). its.made row.path row.records row.state tokens ++ m) held in
    let same : ruled_by its poll ≡ poll = ap (λ (r : Rules). ruled_by r poll) (sym rules) in
    subst (λ (p : Poll). TakesRest pipeline p bytes row before.1 after) same (record {
      state = record {
        states = subst (λ (ks : List Kept). Tells nodes its.fresh ks) (sym closed.fresh) (first_told nodes);
        records_are = closed.records ∙ fed.records ∙ ap (λ n. n + length tokens) is.records_are;
        lines_are = omega (arith, closed.lines, fed.lines, is.lines_are, ap length made, length-append fed.made closed.made);
      };
      written =
          closed.written ∙ ap (λ t. t ++ output_lines row.id (between.lines + 1) poll.stamp closed.made) fed.written
          ∙ append_assoc before.1 (output_lines row.id (before.0.lines + 1) poll.stamp fed.made) (output_lines row.id (between.lines + 1) poll.stamp closed.made)
          ∙ ap (λ t. before.1 ++ t)
          (ap (λ n. output_lines row.id (before.0.lines + 1) poll.stamp fed.made ++ output_lines row.id n poll.stamp closed.made) (omega (arith, fed.lines))
          ∙ sym (append.append row.id (before.0.lines + 1) poll.stamp fed.made closed.made)
          ∙ ap (λ n. output_lines row.id (n + 1) poll.stamp (fed.made ++ closed.made)) is.lines_are
          ∙ ap (λ (m : List LogRecord). output_lines row.id (row.lines + 1) poll.stamp m) made
          ∙ marks_are_lines laws row.id (row.lines + 1) poll.stamp (rest_made its bytes row));
    })

-- ---- no group is open in the first states alone

fresh_all : (kinds : List Bool) → list_all is_fresh (fresh_states kinds) ≡ true
fresh_all [] = refl
fresh_all (true ∷ kinds) = fresh_all kinds
fresh_all (false ∷ kinds) = fresh_all kinds

all_fresh : (states : List Kept) → list_all is_fresh states ≡ true → states ≡ fresh_states (map keeps_groups states)
all_fresh [] is = refl
all_fresh (nothing ∷ states) is = ap (λ (ks : List Kept). nothing ∷ ks) (all_fresh states is)
all_fresh (groups [] ∷ states) is = ap (λ (ks : List Kept). groups [] ∷ ks) (all_fresh states is)
all_fresh (groups (group ∷ others) ∷ states) is = absurd (true≢false (sym is))

one_bool : (a b : Bool) → (a ≡ true → b ≡ true) → (b ≡ true → a ≡ true) → a ≡ b
one_bool true b there back = sym (there refl)
one_bool false true there back = back refl
one_bool false false there back = refl

pub fresh_told : (nodes : List (NodeSpec Operator)) (text : List ℕ) (states : List Kept) → Tells nodes text states → bytes_eq text (states_spelling (start_states (network_of behavior_of nodes))) ≡ list_all is_fresh states
fresh_told nodes text states tells =
    let first : List Kept = start_states (network_of behavior_of nodes) in
    let spelled : List ℕ = states_spelling first in
    let same = bytes_eq-Decides text spelled in
    one_bool (bytes_eq text spelled) (list_all is_fresh states)
    (λ is. let are : states ≡ first = one_told nodes text states first tells (subst (λ (t : List ℕ). Tells nodes t first) (sym (same.0 is)) (first_told nodes)) in
    ap (list_all is_fresh) (are ∙ first_states nodes) ∙ fresh_all (kinds_of nodes))
    (λ is. let are : states ≡ first = all_fresh states is ∙ ap fresh_states tells.kinds ∙ sym (first_states nodes) in
    same.1 (tells.told ∙ ap state_text are ∙ sym (first_told nodes).told))

-- bytes at each place are bytes at any
pub bytes_within : (bytes : List ℕ) → ((i : ℕ) → i < length bytes → get_or bytes i 0 < 256) → IsBytes bytes
bytes_within [] within = λ i. omega arith
bytes_within (byte ∷ rest) within = at (bytes_within rest (λ k low. within (suc k) (omega (arith, low))))
  where
    at : IsBytes rest → (i : ℕ) → get_or (byte ∷ rest) i 0 < 256
    at others zero = within 0 (omega arith)
    at others (suc i) = others i

-- what is spelled behind bytes in memory stands in memory too
bytes_behind : (front back : List ℕ) → IsBytes (front ++ back) → IsBytes back
bytes_behind front back fits = subst IsBytes (drop-append_seam front back) (bytes_after (length front) (front ++ back) fits)

pub saved_tells : (nodes : List (NodeSpec Operator)) (before after : List ℕ) (states : List Kept) → IsBytes after → after ≡ before ++ states_spelling states → AreOfKinds nodes states → HaveSpellings states
    → Spell nodes (states_spelling states) states × Tells nodes (states_spelling states) states
saved_tells nodes before after states fits grown kinds lawful =
    let spell : Spell nodes (states_spelling states) states = record { kinds = kinds; lawful = lawful; spelled = refl } in
    (spell, spelled_tells nodes (states_spelling states) states (bytes_behind before (states_spelling states) (subst IsBytes grown fits)) spell)
