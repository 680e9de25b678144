-- The rules of the settings of a script are what the script counts on.
use Rattle.std.proofs.Common.{◌≡◌, ℕ, ◌≤◌, List, [], ◌∷◌, length, map, sym, ap, subst, ◌∙◌, arith}
use Rattle.std.specs.Prelude.{All, None}
use Rattle.std.proofs.lemmas.List.{length-map}
use Rattle.demo_run.specs.Script.{log_name, rotated_name, settings_text}
use Rattle.demo_run.proofs.Given.{entry_of, given_are, network_is}
use Rattle.demo_run.proofs.IncludeLemmas.{log_included, no_patterns, patterns_are, rotated_included, script_pattern}
use Rattle.demo_run.proofs.Lines.{cuts_of_rounds, lines_cut, text_of_round, texts_of_lines}
use Rattle.demo_run.proofs.Ruled.{AreRounds, IsRuled, entries_of, lines_of_rounds}
use Rattle.demo_run.proofs.Said.{script_settings, settings_are}
use Rattle.demo_run.proofs.Widths.{output_short}
use Rattle.entry_model.specs.LogRecord.{LogRecord}
use Rattle.glob_match.specs.Pattern.{Pattern}
use Rattle.graph_core.specs.Traces.{Network, network_of}
use Rattle.line_splitter.proofs.LineLemmas.{first_cut-is_rule}
use Rattle.line_splitter.specs.Cuts.{Cut, cuts}
use Rattle.line_splitter.specs.LineTokens.{first_cut}
use Rattle.op_kinds.specs.Kept.{Kept}
use Rattle.op_kinds.specs.Operator.{behavior_of}
use Rattle.op_kinds.specs.StateTexts.{states_in}
use Rattle.op_kinds.specs.States.{kinds_of}
use Rattle.pipeline.specs.AsRules.{begins_at_end, rules_of}
use Rattle.pipeline.specs.Globs.{ArePatterns}
use Rattle.pipeline.specs.GraphOutput.{given_from}
use Rattle.pipeline.specs.Parts.{network, settings_of}
use Rattle.pipeline.specs.Tokens.{cuts_of}
use Rattle.pipeline.specs.Wired.{IsNetwork}
use Rattle.pipeline.specs.declared.Pipeline.{Pipeline}
use Rattle.pipeline.specs.MadeOf.{HasRules, IsMadeOf}
use Rattle.settings_text.specs.declared.settings.Settings.{Settings}
use Rattle.standing.proofs.ExampleLemmas.{all_used}
use Rattle.standing.specs.Included.{IsIncluded}
use Rattle.standing.specs.Marks.{numbered}
use Rattle.standing.specs.Rules.{Rules, Includes, output_text}
use Rattle.standing.specs.Tokens.{texts, tokens_of}

module _ (pipeline : Pipeline) (made : IsMadeOf settings_text pipeline) where
  abbrev its_rules : Rules
  its_rules = rules_of settings_text pipeline

  are : settings_of pipeline ≡ script_settings
  are = settings_are (settings_of pipeline) made.said

  network_has_none : network pipeline ≡ network_of behavior_of []
  network_has_none = network_is (network pipeline) (subst (λ (s : Settings). IsNetwork s.operators (network pipeline)) are made.network_is)

  includes_are : pipeline.include.items ≡ script_pattern ∷ []
  includes_are = patterns_are pipeline.include.items (subst (λ (s : Settings). ArePatterns s.include pipeline.include.items) are made.include)

  excludes_are : pipeline.exclude.items ≡ []
  excludes_are = no_patterns pipeline.exclude.items (subst (λ (s : Settings). ArePatterns s.exclude pipeline.exclude.items) are made.exclude)

  includes : (path : List ℕ) → IsIncluded (script_pattern ∷ []) [] path → Includes its_rules path
  includes path it =
      subst (λ (include : List Pattern). IsIncluded include pipeline.exclude.items path) (sym includes_are)
      (subst (λ (exclude : List Pattern). IsIncluded (script_pattern ∷ []) exclude path) (sym excludes_are) it)

  cuts_are : (content : List ℕ) → its_rules.cuts content ≡ cuts (first_cut 1048576) content
  cuts_are content = ap (λ (s : Settings). cuts_of s content) are

  cuts_of_lines : (rounds : List ℕ) → AreRounds rounds → its_rules.cuts (lines_of_rounds rounds) ≡ cuts_of_rounds rounds
  cuts_of_lines rounds few = cuts_are (lines_of_rounds rounds) ∙ lines_cut 1048576 (omega arith) rounds few

  abbrev states : List Kept
  states = states_in (kinds_of pipeline.graph) its_rules.fresh

  entries_are : (rounds : List ℕ) → AreRounds rounds → (path : List ℕ) → entries_of its_rules path (tokens_of its_rules (lines_of_rounds rounds)) ≡ map (entry_of path) rounds
  entries_are rounds few path =
      ap (λ (cs : List Cut). entries_of its_rules path (texts cs)) (cuts_of_lines rounds few)
      ∙ ap (entries_of its_rules path) (texts_of_lines rounds)
      ∙ ap (λ (s : Settings). given_from s (network pipeline) path 0 states (map text_of_round rounds)) are
      ∙ ap (λ (n : Network Kept LogRecord). given_from script_settings n path 0 states (map text_of_round rounds)) network_has_none
      ∙ given_are path states rounds few

  ruled : IsRuled its_rules
  ruled = record {
    front_size = omega (arith, ap (λ (s : Settings). s.fingerprint_size) are);
    from_beginning = ap (λ (s : Settings). begins_at_end s.start_at) are;
    no_times = ap (λ (s : Settings). s.include_observed_time) are;
    never = ap (λ (s : Settings). s.flush_after_polls) are;
    logs = λ log few. includes (log_name log) (log_included log few);
    rotated = λ round few. includes (rotated_name round) (rotated_included round few);
    some_bytes = λ content. subst (All (λ (c : Cut). 1 ≤ c.used)) (sym (cuts_are content)) (all_used (first_cut 1048576) (first_cut-is_rule 1048576 (omega arith)) content);
    entries = λ rounds few path. ap length (entries_are rounds few path) ∙ length-map rounds (entry_of path);
    output = λ rounds few count path short id few_files.
        let bound = output_short path short id few_files rounds few 1 (omega (arith, count)) in
        omega (arith, bound, ap (λ (entries : List LogRecord). length (output_text its_rules (numbered id 1 None entries))) (entries_are rounds few path));
  }

pub is_ruled : (rules : Rules) → HasRules settings_text rules → IsRuled rules
is_ruled rules has = subst IsRuled (sym has.2) (ruled has.0 has.1)
