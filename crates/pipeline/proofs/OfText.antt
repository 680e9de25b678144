-- What is made of one text is one.
use Rattle.std.proofs.Common.{◌≡◌, ℕ, zero, suc, List, [], ◌∷◌, Bool, map, refl, sym, ap, ◌∙◌, subst, arith}
use Rattle.std.specs.Str.{chars}
use Rattle.glob_match.specs.GlobText.{IsGlobText}
use Rattle.glob_match.specs.Pattern.{Pattern}
use Rattle.pipeline.proofs.Building.{one_network}
use Rattle.entry_model.specs.LogRecord.{LogRecord}
use Rattle.graph_core.specs.Traces.{Network, start_states, outputs, closings}
use Rattle.idle_flush.specs.Rests.{rest_cuts}
use Rattle.line_splitter.specs.Cuts.{texts}
use Rattle.op_kinds.specs.Kept.{Kept, keeps_groups}
use Rattle.op_kinds.specs.StateTexts.{states_in, state_text, is_state_text}
use Rattle.op_kinds.specs.States.{states_spelling, kinds_of}
use Rattle.pipeline.proofs.StateKinds.{kinds_begun}
use Rattle.otlp_json.specs.OutputLine.{output_line}
use Rattle.pipeline.specs.AsRules.{rules_of, fits, begins_at_end}
use Rattle.pipeline.specs.GraphOutput.{kept_from, given_from}
use Rattle.pipeline.specs.Tokens.{cuts_of}
use Rattle.pipeline.specs.Globs.{ArePatterns}
use Rattle.pipeline.specs.Parts.{settings_of, network}
use Rattle.pipeline.specs.Wired.{IsNetwork}
use Rattle.pipeline.specs.declared.Pipeline.{Pipeline}
use Rattle.pipeline.specs.MadeOf.{IsMadeOf, HasRules}
use Rattle.settings_text.specs.declared.settings.Settings.{Settings}
use Rattle.standing.specs.Rules.{Rules}

-- a text says one set of rules at most
abbrev pub OneSet : Type 0
OneSet = (text : List ℕ) (one other : Rules) → HasRules text one → HasRules text other → one ≡ other

-- a text spells one pattern at most
abbrev pub SpellOne : Type 0
SpellOne = (text : List ℕ) (pattern other : Pattern) → IsGlobText text pattern → IsGlobText text other → pattern ≡ other

module _ (spell_one : SpellOne) where
  same_patterns : (globs : List (List ℕ)) (one other : List Pattern) → ArePatterns globs one → ArePatterns globs other → one ≡ other
  same_patterns [] [] [] first second = refl
  same_patterns [] [] (other ∷ others) first second = absurd (omega (arith, second.many))
  same_patterns [] (one ∷ ones) others first second = absurd (omega (arith, first.many))
  same_patterns (text ∷ globs) [] others first second = absurd (omega (arith, first.many))
  same_patterns (text ∷ globs) (one ∷ ones) [] first second = absurd (omega (arith, second.many))
  same_patterns (text ∷ globs) (one ∷ ones) (other ∷ others) first second =
      let head : one ≡ other = spell_one (chars text) one other (first.each zero text one refl refl) (second.each zero text other refl refl) in
      let tail : ones ≡ others = same_patterns globs ones others
      (record { many = omega (arith, first.many); each = λ place. first.each (suc place) })
      (record { many = omega (arith, second.many); each = λ place. second.each (suc place) }) in
      cc

  -- what is made of a text, part by part
  rules_with : List ℕ → Settings → Network Kept LogRecord → List Bool → List Pattern → List Pattern → Rules
  rules_with text said made_of kinds include exclude = record {
    settings = text;
    cuts = cuts_of said;
    made = λ path before state tokens. given_from said made_of path before (states_in kinds state) tokens;
    state_after = λ path before state tokens. state_text (kept_from said made_of path before (states_in kinds state) tokens);
    rest = λ bytes. texts (rest_cuts said.max_log_size bytes);
    closed = λ state. outputs made_of (states_in kinds state) (closings made_of);
    fresh = states_spelling (start_states made_of);
    is_state = is_state_text kinds;
    line = λ mark. output_line mark.id mark.number mark.observed mark.entry;
    fits = fits;
    include = include;
    exclude = exclude;
    front_size = said.fingerprint_size;
    from_end = begins_at_end said.start_at;
    stamps = said.include_observed_time;
    flush_after = said.flush_after_polls;
  }

  pub one_rules : (text : List ℕ) (one other : Pipeline) → IsMadeOf text one → IsMadeOf text other → rules_of text one ≡ rules_of text other
  unfolding rules_with
  one_rules text one other first second =
      let said : settings_of other ≡ settings_of one = (let both = sym second.said ∙ first.said in cc) in
      let networks : network one ≡ network other = one_network (settings_of one).operators (network one) (network other) first.network_is (subst (λ (s : Settings). IsNetwork s.operators (network other)) said second.network_is) in
      let includes : one.include.items ≡ other.include.items = same_patterns (settings_of one).include one.include.items other.include.items first.include (subst (λ (s : Settings). ArePatterns s.include other.include.items) said second.include) in
      let excludes : one.exclude.items ≡ other.exclude.items = same_patterns (settings_of one).exclude one.exclude.items other.exclude.items first.exclude (subst (λ (s : Settings). ArePatterns s.exclude other.exclude.items) said second.exclude) in
      let kinds : kinds_of one.graph ≡ kinds_of other.graph =
      sym (kinds_begun one.graph) ∙ ap (λ (n : Network Kept LogRecord). map keeps_groups (start_states n)) networks ∙ kinds_begun other.graph in
      ap (λ s. rules_with text s (network one) (kinds_of one.graph) one.include.items one.exclude.items) (sym said)
      ∙ ap (λ n. rules_with text (settings_of other) n (kinds_of one.graph) one.include.items one.exclude.items) networks
      ∙ ap (λ k. rules_with text (settings_of other) (network other) k one.include.items one.exclude.items) kinds
      ∙ ap (λ i. rules_with text (settings_of other) (network other) (kinds_of other.graph) i one.exclude.items) includes
      ∙ ap (λ e. rules_with text (settings_of other) (network other) (kinds_of other.graph) other.include.items e) excludes

  pub one_set : (text : List ℕ) (one other : Rules) → HasRules text one → HasRules text other → one ≡ other
  one_set text one other first second = first.2 ∙ one_rules text first.0 second.0 first.1 second.1 ∙ sym second.2
