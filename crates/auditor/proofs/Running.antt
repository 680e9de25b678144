-- What the runs of a part give, by the rules of its pipeline.
use Rattle.std.proofs.Common.{◌≡◌, ℕ, ◌+◌, ◌-◌, ◌≤◌, List, [], ◌++◌, map, Bool, true, false, length, drop, sym, ap, ◌∙◌, subst, arith, length-append}
use Rattle.std.specs.Prelude.{All, Option, MatchBool}
use Rattle.std.proofs.lemmas.List.{append-nil, drop-drop, drop_at, length-map}
use Rattle.entry_model.specs.LogRecord.{LogRecord}
use Rattle.file_tracker.specs.declared.ends.End.{End}
use Rattle.graph_core.specs.Traces.{network_of, start_states, states_after, outputs, inputs, closings, Served}
use Rattle.graph_core.specs.declared.NodeSpec.{NodeSpec}
use Rattle.graph_core.specs.declared.Target.{Target}
use Rattle.line_splitter.proofs.LineLemmas.{first_cut-is_rule}
use Rattle.line_splitter.specs.Cuts.{Cut, IsCutRule}
use Rattle.multiline.proofs.RuleLemmas.{is_rule}
use Rattle.op_kinds.proofs.StateTexts.{told_in, text_back}
use Rattle.op_kinds.specs.Kept.{Kept, keeps_groups}
use Rattle.op_kinds.specs.Operator.{Operator, behavior_of}
use Rattle.op_kinds.specs.StateTexts.{states_in, state_text}
use Rattle.op_kinds.specs.States.{kinds_of, states_spelling}
use Rattle.pipeline.proofs.Cutting.{cut_by_a_rule}
use Rattle.pipeline.proofs.Rows.{first_told}
use Rattle.pipeline.proofs.StateKinds.{kinds_kept, kinds_begun}
use Rattle.pipeline.specs.AsRules.{rules_of}
use Rattle.pipeline.specs.Entries.{records_behind}
use Rattle.pipeline.specs.Parts.{settings_of, network, HaveKinds}
use Rattle.pipeline.specs.Tokens.{first_cut_of}
use Rattle.pipeline.specs.declared.Pipeline.{Pipeline}
use Rattle.standing.proofs.ExampleLemmas.{all_used}
use Rattle.standing.specs.Closed.{closed_output}
use Rattle.standing.specs.Part.{part_from, part_output}
use Rattle.standing.specs.Rows.{Row}
use Rattle.standing.specs.Rules.{Rules}
use Rattle.standing.specs.Tokens.{texts, used_by}
use Rattle.whole_runs.specs.Requests.{requests}
use Rattle.auditor.specs.Asked.{cuts_before, tokens_between}
use Rattle.auditor.specs.Inner.Taken.{cuts_taken, AreTaken}
use Rattle.auditor.specs.Inner.Whole.{AreBetween, IsWholeClosed, IsWholeOpen}
use Rattle.auditor.specs.declared.tokens.Taken.{Taken}
use Rattle.auditor.proofs.Bounds.{UsesSome, bound_here, bound_uses, bound_tokens}

-- the bytes of a file past a place, where those in front of it weren't read
pub past_unread : (before bytes : List ℕ) (start from : ℕ) → length before ≡ start → start ≤ from → drop from (before ++ bytes) ≡ drop (from - start) bytes
past_unread before bytes start from long within =
    let whole : from ≡ start + (from - start) = omega (arith, within) in
    ap (λ n. drop n (before ++ bytes)) whole ∙ sym (drop-drop (from - start) start (before ++ bytes)) ∙ ap (drop (from - start)) (drop_at before bytes start long)

pub cut_rule : (pipe : Pipeline) → IsCutRule (first_cut_of (settings_of pipe))
cut_rule pipe =
    let settings = settings_of pipe in
    cut_by_a_rule settings.max_log_size (first_cut-is_rule settings.max_log_size pipe.some_bytes) (is_rule settings.max_log_size pipe.some_bytes) settings.multiline

pub tokens_use_some : (pipe : Pipeline) (content : List ℕ) → All UsesSome ((rules_of [] pipe).cuts content)
tokens_use_some pipe content = all_used (first_cut_of (settings_of pipe)) (cut_rule pipe) content

-- requests after requests go on from what those leave
abbrev pub RunsGoOn : Pipeline → Type 0
RunsGoOn pipe = (from : List Kept) (earlier later : List (Target × Option LogRecord))
    → outputs (network pipe) from (earlier ++ later) ≡ outputs (network pipe) from earlier ++ outputs (network pipe) (states_after (network pipe) from earlier) later

module _ (pipe : Pipeline) where
  abbrev its_rules : Rules
  its_rules = rules_of [] pipe

  abbrev started : List Kept
  started = start_states (network pipe)

  abbrev its_requests : List ℕ → ℕ → List (List ℕ) → List (Target × Option LogRecord)
  its_requests path before tokens = inputs (network pipe) (records_behind (settings_of pipe) path before tokens)

  fresh_in : states_in (kinds_of pipe.graph) its_rules.fresh ≡ started
  fresh_in = told_in pipe.graph (states_spelling started) started (first_told pipe.graph)

  kept_back : (path : List ℕ) (before : ℕ) (tokens : List (List ℕ))
      → states_in (kinds_of pipe.graph) (state_text (states_after (network pipe) started (its_requests path before tokens))) ≡ states_after (network pipe) started (its_requests path before tokens)
  kept_back path before tokens =
      text_back (kinds_of pipe.graph) (states_after (network pipe) started (its_requests path before tokens))
      (kinds_kept pipe.graph started (its_requests path before tokens) (kinds_begun pipe.graph))

  made_open : (path : List ℕ) (before : ℕ) (tokens : List (List ℕ)) (items : List LogRecord)
      → items ≡ outputs (network pipe) started (requests (network pipe) (records_behind (settings_of pipe) path before tokens) false) → items ≡ its_rules.made path before its_rules.fresh tokens
  made_open path before tokens items is =
      is ∙ ap (outputs (network pipe) started) (append-nil (its_requests path before tokens))
      ∙ ap (λ (ks : List Kept). outputs (network pipe) ks (its_requests path before tokens)) (sym fresh_in)

  state_open : (path : List ℕ) (before : ℕ) (tokens : List (List ℕ)) (states : List Kept)
      → states ≡ states_after (network pipe) started (requests (network pipe) (records_behind (settings_of pipe) path before tokens) false)
      → state_text states ≡ its_rules.state_after path before its_rules.fresh tokens
  state_open path before tokens states is =
      ap state_text
      (is ∙ ap (states_after (network pipe) started) (append-nil (its_requests path before tokens))
      ∙ ap (λ (ks : List Kept). states_after (network pipe) ks (its_requests path before tokens)) (sym fresh_in))

  made_closed : RunsGoOn pipe → (path : List ℕ) (before : ℕ) (tokens : List (List ℕ)) (items : List LogRecord)
      → items ≡ outputs (network pipe) started (requests (network pipe) (records_behind (settings_of pipe) path before tokens) true) → items ≡ closed_output its_rules path before tokens
  made_closed go_on path before tokens items is =
      is ∙ go_on started (its_requests path before tokens) (closings (network pipe))
      ∙ ap (λ (ks : List Kept). outputs (network pipe) started (its_requests path before tokens) ++ outputs (network pipe) ks (closings (network pipe))) (sym (kept_back path before tokens))
      ∙ ap (λ (ks : List Kept). outputs (network pipe) ks (its_requests path before tokens)
      ++ outputs (network pipe) (states_in (kinds_of pipe.graph) (state_text (states_after (network pipe) ks (its_requests path before tokens)))) (closings (network pipe))) (sym fresh_in)

-- a run over the pipeline's nodes from the first states
pub ran : (pipe : Pipeline) (nodes : List (NodeSpec Operator)) (from after : List Kept) (items out : List LogRecord) (closed : Bool) → nodes ≡ pipe.graph → from ≡ start_states (network pipe)
    → Served (network_of behavior_of nodes) from [] (requests (network_of behavior_of nodes) items closed) after out
    → Served (network pipe) (start_states (network pipe)) [] (requests (network pipe) items closed) after out
ran pipe nodes from after items out closed same begun served =
    subst (λ (ks : List Kept). Served (network pipe) ks [] (requests (network pipe) items closed) after out) begun
    (subst (λ (ns : List (NodeSpec Operator)). Served (network_of behavior_of ns) from [] (requests (network_of behavior_of ns) items closed) after out) same served)

pub ran_kinds : (pipe : Pipeline) (after : List Kept) (requested : List (Target × Option LogRecord)) → after ≡ states_after (network pipe) (start_states (network pipe)) requested → HaveKinds pipe after
ran_kinds pipe after requested is = ap (map keeps_groups) is ∙ kinds_kept pipe.graph (start_states (network pipe)) requested (kinds_begun pipe.graph)

pub begun_so : (pipe : Pipeline) (nodes : List (NodeSpec Operator)) (states : List Kept) → nodes ≡ pipe.graph
    → Served (network_of behavior_of nodes) (start_states (network pipe)) [] (inputs (network_of behavior_of nodes) []) (start_states (network pipe)) []
    → states ≡ states_after (network pipe) (start_states (network pipe)) (inputs (network pipe) []) → states ≡ start_states (network pipe)
begun_so pipe nodes states same begin is =
    let its : Served (network pipe) (start_states (network pipe)) [] (inputs (network pipe) []) (start_states (network pipe)) [] =
    subst (λ (ns : List (NodeSpec Operator)). Served (network_of behavior_of ns) (start_states (network pipe)) [] (inputs (network_of behavior_of ns) []) (start_states (network pipe)) []) same begin in
    is ∙ sym its.states

-- ---- whole parts

module _ (pipe : Pipeline) (content : List ℕ) (from to : End) where
  abbrev the_rules : Rules
  the_rules = rules_of [] pipe

  abbrev there : List Cut
  there = cuts_before (to.offset - from.offset) (the_rules.cuts (drop from.offset content))

  pub closed_so : (path : List ℕ) (lines : ℕ) → lines ≡ length (closed_output the_rules path from.records (texts there))
      → AreBetween from to (length content) (used_by there) (length there) lines → IsWholeClosed the_rules content path from to
  closed_so path lines many are = record {
    begins = omega (arith, are.offsets);
    within = are.within;
    tokens = texts there;
    bound = bound_here the_rules (drop from.offset content) (to.offset - from.offset) (omega (arith, are.offsets));
    records = omega (arith, are.records, length-map there (λ (c : Cut). c.text));
    lines = omega (arith, are.outputs, many);
  }

  pub closed_then : (path : List ℕ) (lines : ℕ) → lines ≡ length (closed_output the_rules path from.records (texts there))
      → IsWholeClosed the_rules content path from to → AreBetween from to (length content) (used_by there) (length there) lines
  closed_then path lines many whole =
      let all = tokens_use_some pipe (drop from.offset content) in
      let uses = bound_uses the_rules (drop from.offset content) (to.offset - from.offset) whole.tokens whole.bound all in
      let tokens = bound_tokens the_rules (drop from.offset content) (to.offset - from.offset) whole.tokens whole.bound all in
      record {
        within = whole.within;
        offsets = omega (arith, uses, whole.begins);
        records = omega (arith, whole.records, ap length tokens, length-map there (λ (c : Cut). c.text));
        outputs = omega (arith, whole.lines, many, ap (λ (ts : List (List ℕ)). length (closed_output the_rules path from.records ts)) tokens);
      }

module _ (pipe : Pipeline) (content : List ℕ) (row : Row) (from : End) where
  abbrev row_rules : Rules
  row_rules = rules_of [] pipe

  abbrev taken_there : List Cut
  taken_there = cuts_before (row.offset - from.offset) (row_rules.cuts (drop from.offset content))

  abbrev pub the_end : End
  the_end = record { offset = row.offset; records = row.records; lines = row.lines }

  pub open_so : (lines : ℕ) → lines ≡ length (part_output row_rules (part_from row_rules from) row.path (texts taken_there))
      → row.state ≡ row_rules.state_after row.path from.records row_rules.fresh (texts taken_there)
      → AreBetween from the_end (length content) (used_by taken_there) (length taken_there) lines → IsWholeOpen row_rules content row from
  open_so lines many state are = record {
    tokens = texts taken_there;
    taken = record {
      begins = omega (arith, are.offsets);
      within = are.within;
      bound = bound_here row_rules (drop from.offset content) (row.offset - from.offset) (omega (arith, are.offsets));
      records = omega (arith, are.records, length-map taken_there (λ (c : Cut). c.text));
      lines = omega (arith, are.outputs, many);
      state = state;
    };
  }

  module _ (whole : IsWholeOpen row_rules content row from) where
    abbrev its_tokens : whole.tokens ≡ texts taken_there
    its_tokens = bound_tokens row_rules (drop from.offset content) (row.offset - from.offset) whole.tokens whole.taken.bound (tokens_use_some pipe (drop from.offset content))

    pub open_state : row.state ≡ row_rules.state_after row.path from.records row_rules.fresh (texts taken_there)
    open_state = whole.taken.state ∙ ap (row_rules.state_after row.path from.records row_rules.fresh) its_tokens

    pub open_then : (lines : ℕ) → lines ≡ length (part_output row_rules (part_from row_rules from) row.path (texts taken_there))
        → AreBetween from the_end (length content) (used_by taken_there) (length taken_there) lines
    open_then lines many =
        let uses = bound_uses row_rules (drop from.offset content) (row.offset - from.offset) whole.tokens whole.taken.bound (tokens_use_some pipe (drop from.offset content)) in
        record {
          within = whole.taken.within;
          offsets = omega (arith, uses, whole.taken.begins);
          records = omega (arith, whole.taken.records, ap length its_tokens, length-map taken_there (λ (c : Cut). c.text));
          outputs = omega (arith, whole.taken.lines, many, ap (λ (ts : List (List ℕ)). length (part_output row_rules (part_from row_rules from) row.path ts)) its_tokens);
        }

-- ---- the parts of some bytes

same_between : (from to : End) (last used count lines last_again used_again count_again : ℕ) → last ≡ last_again → used ≡ used_again → count ≡ count_again
    → AreBetween from to last used count lines → AreBetween from to last_again used_again count_again lines
same_between from to last used count lines last_again used_again count_again l u n are =
    record { within = omega (arith, are.within, l); offsets = omega (arith, are.offsets, u); records = omega (arith, are.records, n); outputs = are.outputs }

module _ (pipe : Pipeline) (path before bytes : List ℕ) (start : ℕ) (from to : End) (rest : List ℕ) (taken : Taken) (long : length before ≡ start) (past : start ≤ from.offset)
    (rest_is : rest ≡ drop (from.offset - start) bytes) (are_taken : AreTaken (settings_of pipe) path from.records (cuts_taken (settings_of pipe) (to.offset - from.offset) rest) taken) where
  abbrev whole_bytes : List ℕ
  whole_bytes = before ++ bytes

  abbrev cuts_there : List Cut
  cuts_there = cuts_before (to.offset - from.offset) ((rules_of [] pipe).cuts (drop from.offset whole_bytes))

  same_cuts : cuts_taken (settings_of pipe) (to.offset - from.offset) rest ≡ cuts_there
  same_cuts = ap (cuts_taken (settings_of pipe) (to.offset - from.offset)) (rest_is ∙ sym (past_unread before bytes start from.offset long past))

  entries_there : taken.entries.items ≡ records_behind (settings_of pipe) path from.records (texts cuts_there)
  entries_there = are_taken.entries ∙ ap (λ (cs : List Cut). records_behind (settings_of pipe) path from.records (texts cs)) same_cuts

  pub items_closed : RunsGoOn pipe → (items : List LogRecord) → items ≡ outputs (network pipe) (start_states (network pipe)) (requests (network pipe) taken.entries.items true)
      → items ≡ closed_output (rules_of [] pipe) path from.records (tokens_between (rules_of [] pipe) whole_bytes from.offset to.offset)
  items_closed go_on items is =
      made_closed pipe go_on path from.records (texts cuts_there) items
      (is ∙ ap (λ (es : List LogRecord). outputs (network pipe) (start_states (network pipe)) (requests (network pipe) es true)) entries_there)

  pub items_open : (items : List LogRecord) → items ≡ outputs (network pipe) (start_states (network pipe)) (requests (network pipe) taken.entries.items false)
      → items ≡ part_output (rules_of [] pipe) (part_from (rules_of [] pipe) from) path (tokens_between (rules_of [] pipe) whole_bytes from.offset to.offset)
  items_open items is =
      made_open pipe path from.records (texts cuts_there) items
      (is ∙ ap (λ (es : List LogRecord). outputs (network pipe) (start_states (network pipe)) (requests (network pipe) es false)) entries_there)

  pub states_open : (states : List Kept) → states ≡ states_after (network pipe) (start_states (network pipe)) (requests (network pipe) taken.entries.items false)
      → state_text states ≡ (rules_of [] pipe).state_after path from.records (rules_of [] pipe).fresh (texts cuts_there)
  states_open states is =
      state_open pipe path from.records (texts cuts_there) states
      (is ∙ ap (λ (es : List LogRecord). states_after (network pipe) (start_states (network pipe)) (requests (network pipe) es false)) entries_there)

  abbrev end_of : ℕ
  end_of = start + length bytes

  its_end : end_of ≡ length whole_bytes
  its_end = omega (arith, long, length-append before bytes)

  its_use : taken.used ≡ used_by cuts_there
  its_use = are_taken.used ∙ ap used_by same_cuts

  its_count : taken.count ≡ length cuts_there
  its_count = are_taken.count ∙ ap length same_cuts

  pub between_there : (lines : ℕ) → AreBetween from to end_of taken.used taken.count lines → AreBetween from to (length whole_bytes) (used_by cuts_there) (length cuts_there) lines
  between_there lines = same_between from to end_of taken.used taken.count lines (length whole_bytes) (used_by cuts_there) (length cuts_there) its_end its_use its_count

  pub between_here : (lines : ℕ) → AreBetween from to (length whole_bytes) (used_by cuts_there) (length cuts_there) lines → AreBetween from to end_of taken.used taken.count lines
  between_here lines = same_between from to (length whole_bytes) (used_by cuts_there) (length cuts_there) lines end_of taken.used taken.count (sym its_end) (sym its_use) (sym its_count)

  pub whole_closed : RunsGoOn pipe → (items : List LogRecord) → items ≡ outputs (network pipe) (start_states (network pipe)) (requests (network pipe) taken.entries.items true)
      → (lines : ℕ) → lines ≡ length items → (is_whole : Bool)
      → MatchBool is_whole (AreBetween from to end_of taken.used taken.count lines) (AreBetween from to end_of taken.used taken.count lines → ⊥)
      → MatchBool is_whole (IsWholeClosed (rules_of [] pipe) whole_bytes path from to) (IsWholeClosed (rules_of [] pipe) whole_bytes path from to → ⊥)
  whole_closed go_on items is lines many true are =
      closed_so pipe whole_bytes from to path lines (many ∙ ap length (items_closed go_on items is)) (between_there lines are)
  whole_closed go_on items is lines many false not = λ whole.
      not (between_here lines (closed_then pipe whole_bytes from to path lines (many ∙ ap length (items_closed go_on items is)) whole))

module _ (pipe : Pipeline) (row : Row) (before bytes : List ℕ) (from : End) (rest : List ℕ) (taken : Taken) (long : length before ≡ row.start) (past : row.start ≤ from.offset)
    (rest_is : rest ≡ drop (from.offset - row.start) bytes) (are_taken : AreTaken (settings_of pipe) row.path from.records (cuts_taken (settings_of pipe) (row.offset - from.offset) rest) taken)
    (states : List Kept) (states_are : states ≡ states_after (network pipe) (start_states (network pipe)) (requests (network pipe) taken.entries.items false)) where
  abbrev row_end : End
  row_end = the_end pipe (before ++ bytes) row from

  its_text : state_text states ≡ (rules_of [] pipe).state_after row.path from.records (rules_of [] pipe).fresh (tokens_between (rules_of [] pipe) (before ++ bytes) from.offset row.offset)
  its_text = states_open pipe row.path before bytes row.start from row_end rest taken long past rest_is are_taken states states_are

  pub whole_has_state : IsWholeOpen (rules_of [] pipe) (before ++ bytes) row from → row.state ≡ state_text states
  whole_has_state whole = open_state pipe (before ++ bytes) row from whole ∙ sym its_text

  pub whole_open : row.state ≡ state_text states → (items : List LogRecord) → items ≡ outputs (network pipe) (start_states (network pipe)) (requests (network pipe) taken.entries.items false)
      → (lines : ℕ) → lines ≡ length items → (is_whole : Bool)
      → MatchBool is_whole (AreBetween from row_end (row.start + length bytes) taken.used taken.count lines) (AreBetween from row_end (row.start + length bytes) taken.used taken.count lines → ⊥)
      → MatchBool is_whole (IsWholeOpen (rules_of [] pipe) (before ++ bytes) row from) (IsWholeOpen (rules_of [] pipe) (before ++ bytes) row from → ⊥)
  whole_open state items is lines many true are =
      open_so pipe (before ++ bytes) row from lines (many ∙ ap length (items_open pipe row.path before bytes row.start from row_end rest taken long past rest_is are_taken items is))
      (state ∙ its_text) (between_there pipe row.path before bytes row.start from row_end rest taken long past rest_is are_taken lines are)
  whole_open state items is lines many false not = λ whole.
      not (between_here pipe row.path before bytes row.start from row_end rest taken long past rest_is are_taken lines
      (open_then pipe (before ++ bytes) row from whole lines (many ∙ ap length (items_open pipe row.path before bytes row.start from row_end rest taken long past rest_is are_taken items is))))
