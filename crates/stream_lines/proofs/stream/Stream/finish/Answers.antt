use Rattle.std.proofs.Common.{◌≡◌, [], List, ℕ, sym, ap, subst, ◌∙◌}
use Rattle.std.proofs.lemmas.Result.{err_from_is_err_and}
use Rattle.std.specs.Prelude.{Err}
use Rattle.line_splitter.specs.Cuts.{IsCutRule}
use Rattle.pipeline.specs.Closed.{Finished}
use Rattle.pipeline.specs.Parts.{settings_of}
use Rattle.pipeline.specs.Tokens.{first_cut_of}
use Rattle.standing.specs.Marks.{Mark}
use Rattle.stream_lines.specs.Prints.{Tells}
use Rattle.stream_lines.specs.StreamLines.{open_lines, whole_lines, stream_origin}
use Rattle.stream_lines.proofs.PrintLemmas.{earlier_part, memory_tells}
use Rattle.stream_lines.proofs.StreamLemmas.{CutLaws, LineLaws, OutputLaws, finished_text, whole_on}
use Rattle.stream_lines.proofs.stream.Stream.finish.Goals as goal

pub returns-in_err-finish-clause-tells : goal.returns-in_err-finish-clause-tells
returns-in_err-finish-clause-tells g c = λ given begun taken so_far.
    let pipeline = c.args.pipeline.now in
    let observed = c.args.observed in
    let first = first_cut_of (settings_of pipeline) in
    let rule : IsCutRule first = c.tokens_are_cut_by_a_rule.ensures in
    let laws : CutLaws first = record { go_on = c.cuts_go_on.ensures first rule; all = c.cuts_up_to_a_bound.ensures.all first rule; within = c.cuts_up_to_a_bound.ensures.within first rule; lasting = c.cuts_up_to_a_bound.ensures.lasting first rule } in
    let out : OutputLaws pipeline = record { none = c.go_on.ensures.none; nothing = c.go_on.ensures.nothing; kept = c.go_on.ensures.kept; given = c.go_on.ensures.given } in
    let made = err_from_is_err_and c.from_residual.result c.from_residual.ensures.1 in
    memory_tells (whole_lines pipeline observed given) c.from_residual.result begun _ (made.1 ∙ ap Err made.2) (earlier_part (open_lines pipeline observed given) _ _ begun _ (whole_on pipeline laws out observed given) so_far)

pub returns-clause-tells : goal.returns-clause-tells
returns-clause-tells g c = λ given begun taken so_far.
    let pipeline = c.args.pipeline.now in
    let observed = c.args.observed in
    let first = first_cut_of (settings_of pipeline) in
    let rule : IsCutRule first = c.tokens_are_cut_by_a_rule.ensures in
    let laws : CutLaws first = record { go_on = c.cuts_go_on.ensures first rule; all = c.cuts_up_to_a_bound.ensures.all first rule; within = c.cuts_up_to_a_bound.ensures.within first rule; lasting = c.cuts_up_to_a_bound.ensures.lasting first rule } in
    let out : OutputLaws pipeline = record { none = c.go_on.ensures.none; nothing = c.go_on.ensures.nothing; kept = c.go_on.ensures.kept; given = c.go_on.ensures.given } in
    let lines : LineLaws = record { none = c.lines_append.ensures.none; more = c.lines_append.ensures.more; append = c.lines_append.ensures.append } in
    let none : c.clear.new.self.items ≡ [] = c.clear.ensures.items in
    let finished : Finished pipeline (stream_origin observed) c.args.self.waiting.items (c.args.self.state, []) (c.finish.new.state, c.finish.new.out.items) =
    subst (λ (l : List ℕ). Finished pipeline (stream_origin observed) l (c.args.self.state, []) (c.finish.new.state, c.finish.new.out.items)) c.deref.ensures.value
    (subst (λ (l : List ℕ). Finished pipeline (stream_origin observed) c.deref.result.now (c.args.self.state, l) (c.finish.new.state, c.finish.new.out.items)) none c.in_ok-finish.ensures.finished) in
    let text = finished_text pipeline laws out observed lines given c.args.self taken c.finish.new.state c.finish.new.out.items finished in
    subst (λ (l : List Mark). Tells l c.print.result begun (g.K.Sink.meaning.written c.print.new.report)) (sym (whole_on pipeline laws out observed given))
    (c.print.ensures.tells (open_lines pipeline observed given) _ begun (c.deref-2.ensures.value ∙ text) taken.printed so_far)
