use Rattle.std.proofs.Common.{[], ◌∷◌, ◌++◌, length, drop, refl, sym, ap, arith, length-append}
use Rattle.graph_core.specs.Traces.{start_states}
use Rattle.idle_flush.proofs.RestLemmas.{uses_all}
use Rattle.idle_flush.specs.Rests.{rest_cuts}
use Rattle.line_splitter.proofs.CutLemmas.{used_by-cuts, cuts-append}
use Rattle.line_splitter.specs.Cuts.{cuts, used_by, IsCutRule}
use Rattle.pipeline.proofs.Feeding.{GraphLaws}
use Rattle.pipeline.proofs.Rows.{is_told, first_told}
use Rattle.pipeline.proofs.Ruled.{fits_whole, same_mark, goes_on_so, given_in_parts, stays_so, kept_in_parts}
use Rattle.op_kinds.specs.StateTexts.{states_in}
use Rattle.op_kinds.specs.States.{states_spelling, kinds_of}
use Rattle.pipeline.specs.Parts.{settings_of, network}
use Rattle.pipeline.specs.Tokens.{first_cut_of}
use Rattle.standing.proofs.ExampleLemmas.{all_used, cuts_go_on}
use Rattle.pipeline.proofs.laws.a_pipeline_is_rules.Goals as goal

pub returns : goal.returns
returns c = λ settings_text keeps.
    let pipeline = c.args.pipeline.now in
    let settings = settings_of pipeline in
    let first = first_cut_of settings in
    let rule : IsCutRule first = c.tokens_are_cut_by_a_rule.ensures in
    let graph : GraphLaws (network pipeline) = record { begin = c.begin.ensures; states = c.go_on.ensures.states; items = c.go_on.ensures.items } in
    record {
      tokens = record {
        each_uses = all_used first rule;
        within = used_by-cuts first rule;
        lasting = λ content more. (cuts first (drop (used_by (cuts first content)) content ++ more), cuts-append first rule content more);
        going_on = cuts_go_on first rule;
        resting = λ content. record { taken = rest_cuts settings.max_log_size content; are = refl; uses = uses_all settings.max_log_size content (omega (arith, keeps.max_log_size_from)) };
      };
      operators = record {
        fresh_is_state = is_told pipeline.graph (states_spelling (start_states (network pipeline))) (start_states (network pipeline)) (first_told pipeline.graph);
        state_goes_on = λ path before state tokens is. goes_on_so settings pipeline.graph graph path before state tokens is;
        none_made = λ path before state is. sym (graph.begin (states_in (kinds_of pipeline.graph) state) []).items;
        made_in_parts = λ path before state tokens more is. given_in_parts settings pipeline.graph graph path before state tokens more is;
        state_stays = λ path before state is. stays_so settings pipeline.graph graph path before state is;
        state_in_parts = λ path before state tokens more is. kept_in_parts settings pipeline.graph graph path before state tokens more is;
      };
      lines = record {
        not_empty = λ mark. let one = c.line_is_one_line.ensures.one mark.id mark.number mark.observed mark.entry in omega (arith, ap length one.ends, length-append one.content (10 ∷ []));
        tells_all = λ mark other rest more fit other_fit same.
            let whole = fits_whole mark fit in
            let other_whole = fits_whole other other_fit in
            let told = c.line_tells_all.ensures.row mark.id mark.number other.id other.number mark.observed other.observed mark.entry other.entry rest more whole.id whole.number other_whole.id other_whole.number whole.time other_whole.time whole.entry other_whole.entry same in
            (same_mark mark other told.0 told.1 told.2 told.3, told.4);
      };
      front_size = keeps.fingerprint_size_from;
    }
