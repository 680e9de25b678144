-- A built pipeline as rules: what the promises on polls know of it.
use Rattle.std.specs.Prelude.{ℕ, ◌^◌, ℤ, pos, negsuc, List, Bool, true, false, ◌&&◌, nat_lt, Option, None, Some}
use Rattle.entry_model.specs.Datum.{Datum, null, boolean, int, text, list, fields, Items, no_items, item, Members, no_members, member}
use Rattle.entry_model.specs.LogRecord.{LogRecord}
use Rattle.graph_core.specs.Traces.{start_states, outputs, closings}
use Rattle.idle_flush.specs.Rests.{rest_cuts}
use Rattle.line_splitter.specs.Cuts.{texts}
use Rattle.otlp_json.specs.OutputLine.{output_line}
use Rattle.op_kinds.specs.StateTexts.{states_in, state_text, is_state_text}
use Rattle.op_kinds.specs.States.{states_spelling, kinds_of}
use Rattle.pipeline.specs.GraphOutput.{kept_from, given_from}
use Rattle.pipeline.specs.Parts.{settings_of, network}
use Rattle.pipeline.specs.Tokens.{cuts_of}
use Rattle.pipeline.specs.declared.Pipeline.{Pipeline}
use Rattle.settings_text.specs.declared.settings.StartAt.{StartAt}
use Rattle.settings_text.specs.declared.settings.StartAt.TheVariants.{Beginning, End}
use Rattle.standing.specs.Marks.{Mark}
use Rattle.standing.specs.Rules.{Rules}

-- ---- numbers of 64 bits, in which a line tells them

abbrev pub is_integer : ℤ → Bool
is_integer (pos n) = nat_lt n (2 ^ 63)
is_integer (negsuc n) = nat_lt n (2 ^ 63)

abbrev mutual
  pub has_integers : Datum → Bool
  has_integers null = true
  has_integers (boolean b) = true
  has_integers (int z) = is_integer z
  has_integers (text bytes) = true
  has_integers (list items) = items_have_integers items
  has_integers (fields members) = members_have_integers members

  pub items_have_integers : Items → Bool
  items_have_integers no_items = true
  items_have_integers (item first rest) = has_integers first && items_have_integers rest

  pub members_have_integers : Members → Bool
  members_have_integers no_members = true
  members_have_integers (member key value rest) = has_integers value && members_have_integers rest

abbrev pub is_time : Option ℕ → Bool
is_time None = true
is_time (Some nanoseconds) = nat_lt nanoseconds (2 ^ 64)

abbrev pub is_of_64_bits : LogRecord → Bool
is_of_64_bits entry =
    has_integers entry.body && (members_have_integers entry.attributes && (members_have_integers entry.resource && (is_time entry.timestamp && nat_lt entry.severity (2 ^ 64))))

abbrev pub fits : Mark → Bool
fits mark = nat_lt mark.id (2 ^ 64) && (nat_lt mark.number (2 ^ 64) && (is_time mark.observed && is_of_64_bits mark.entry))

-- ---- the rules

abbrev pub begins_at_end : StartAt → Bool
begins_at_end Beginning = false
begins_at_end End = true

-- The rules of the settings that have this text. A run goes on from the states for which a row's text stands, and leaves the
-- text that stands for those behind it.
abbrev pub rules_of : List ℕ → Pipeline → Rules
rules_of settings_text pipeline = record {
  settings = settings_text;
  cuts = cuts_of (settings_of pipeline);
  made = λ path before state tokens. given_from (settings_of pipeline) (network pipeline) path before (states_in (kinds_of pipeline.graph) state) tokens;
  state_after = λ path before state tokens. state_text (kept_from (settings_of pipeline) (network pipeline) path before (states_in (kinds_of pipeline.graph) state) tokens);
  rest = λ bytes. texts (rest_cuts (settings_of pipeline).max_log_size bytes);
  closed = λ state. outputs (network pipeline) (states_in (kinds_of pipeline.graph) state) (closings (network pipeline));
  fresh = states_spelling (start_states (network pipeline));
  is_state = is_state_text (kinds_of pipeline.graph);
  line = λ mark. output_line mark.id mark.number mark.observed mark.entry;
  fits = fits;
  include = pipeline.include.items;
  exclude = pipeline.exclude.items;
  front_size = (settings_of pipeline).fingerprint_size;
  from_end = begins_at_end (settings_of pipeline).start_at;
  stamps = (settings_of pipeline).include_observed_time;
  flush_after = (settings_of pipeline).flush_after_polls;
}
