use Rattle.std.proofs.Common.{[], List, length, sym, ap, subst, ◌∙◌, arith}
use Rattle.std.proofs.lemmas.List.{drop_all}
use Rattle.line_splitter.specs.Cuts.{Cut, IsCutRule, texts}
use Rattle.file_pass.specs.Full.{lines_text}
use Rattle.pipeline.specs.GraphOutput.{StandsFor}
use Rattle.pipeline.specs.Parts.{settings_of, network}
use Rattle.pipeline.specs.Tokens.{first_cut_of, used_of}
use Rattle.stream_lines.specs.StreamLines.{stream_path}
use Rattle.stream_lines.proofs.StreamLemmas.{CutLaws, OutputLaws, none_open, nothing_taken}
use Rattle.stream_lines.proofs.stream.Stream.new.Goals as goal

pub returns-clause-taken : goal.returns-clause-taken
returns-clause-taken c = λ observed.
    let pipeline = c.args.pipeline.now in
    let first = first_cut_of (settings_of pipeline) in
    let rule : IsCutRule first = c.tokens_are_cut_by_a_rule.ensures in
    let laws : CutLaws first = record { go_on = c.cuts_go_on.ensures first rule; all = c.cuts_up_to_a_bound.ensures.all first rule; within = c.cuts_up_to_a_bound.ensures.within first rule; lasting = c.cuts_up_to_a_bound.ensures.lasting first rule } in
    let out : OutputLaws pipeline = record { none = c.go_on.ensures.none; nothing = c.go_on.ensures.nothing; kept = c.go_on.ensures.kept; given = c.go_on.ensures.given } in
    record {
      stands = subst (λ (cs : List Cut). StandsFor (settings_of pipeline) (network pipeline) stream_path (texts cs) c.in_ok-state.state) (sym (nothing_taken pipeline laws)) (c.in_ok-state.ensures.stands stream_path);
      waits = c.new.ensures.items ∙ sym (drop_all (used_of (settings_of pipeline) []) [] (omega arith));
      printed = ap (λ l. length (lines_text l)) (sym (none_open pipeline laws out observed));
    }

pub returns-clause-no_lines : goal.returns-clause-no_lines
returns-clause-no_lines c = λ observed.
    let pipeline = c.args.pipeline.now in
    let first = first_cut_of (settings_of pipeline) in
    let rule : IsCutRule first = c.tokens_are_cut_by_a_rule.ensures in
    let laws : CutLaws first = record { go_on = c.cuts_go_on.ensures first rule; all = c.cuts_up_to_a_bound.ensures.all first rule; within = c.cuts_up_to_a_bound.ensures.within first rule; lasting = c.cuts_up_to_a_bound.ensures.lasting first rule } in
    let out : OutputLaws pipeline = record { none = c.go_on.ensures.none; nothing = c.go_on.ensures.nothing; kept = c.go_on.ensures.kept; given = c.go_on.ensures.given } in
    none_open pipeline laws out observed

pub returns-in_err-state-clause-no_lines : goal.returns-in_err-state-clause-no_lines
returns-in_err-state-clause-no_lines c = λ observed.
    let pipeline = c.args.pipeline.now in
    let first = first_cut_of (settings_of pipeline) in
    let rule : IsCutRule first = c.tokens_are_cut_by_a_rule.ensures in
    let laws : CutLaws first = record { go_on = c.cuts_go_on.ensures first rule; all = c.cuts_up_to_a_bound.ensures.all first rule; within = c.cuts_up_to_a_bound.ensures.within first rule; lasting = c.cuts_up_to_a_bound.ensures.lasting first rule } in
    let out : OutputLaws pipeline = record { none = c.go_on.ensures.none; nothing = c.go_on.ensures.nothing; kept = c.go_on.ensures.kept; given = c.go_on.ensures.given } in
    none_open pipeline laws out observed
