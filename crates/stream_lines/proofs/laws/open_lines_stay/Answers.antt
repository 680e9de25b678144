use Rattle.line_splitter.specs.Cuts.{IsCutRule}
use Rattle.pipeline.specs.Parts.{settings_of}
use Rattle.pipeline.specs.Tokens.{first_cut_of}
use Rattle.stream_lines.proofs.StreamLemmas.{CutLaws, OutputLaws, open_grows, whole_on}
use Rattle.stream_lines.proofs.laws.open_lines_stay.Goals as goal

pub returns-clause-further : goal.returns-clause-further
returns-clause-further c =
    let pipeline = c.args.pipeline.now in
    let first = first_cut_of (settings_of pipeline) in
    let rule : IsCutRule first = c.tokens_are_cut_by_a_rule.ensures in
    let laws : CutLaws first = record { go_on = c.cuts_go_on.ensures first rule; all = c.cuts_up_to_a_bound.ensures.all first rule; within = c.cuts_up_to_a_bound.ensures.within first rule; lasting = c.cuts_up_to_a_bound.ensures.lasting first rule } in
    let out : OutputLaws pipeline = record { none = c.go_on.ensures.none; nothing = c.go_on.ensures.nothing; kept = c.go_on.ensures.kept; given = c.go_on.ensures.given } in
    open_grows pipeline laws out

pub returns-clause-whole : goal.returns-clause-whole
returns-clause-whole c =
    let pipeline = c.args.pipeline.now in
    let first = first_cut_of (settings_of pipeline) in
    let rule : IsCutRule first = c.tokens_are_cut_by_a_rule.ensures in
    let laws : CutLaws first = record { go_on = c.cuts_go_on.ensures first rule; all = c.cuts_up_to_a_bound.ensures.all first rule; within = c.cuts_up_to_a_bound.ensures.within first rule; lasting = c.cuts_up_to_a_bound.ensures.lasting first rule } in
    let out : OutputLaws pipeline = record { none = c.go_on.ensures.none; nothing = c.go_on.ensures.nothing; kept = c.go_on.ensures.kept; given = c.go_on.ensures.given } in
    λ observed given. (_, whole_on pipeline laws out observed given)
