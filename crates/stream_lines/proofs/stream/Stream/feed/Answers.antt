use Rattle.std.proofs.Common.{◌≡◌, ◌++◌, List, ℕ, length, drop, sym, ap, subst, ◌∙◌, arith, length-append, length-drop}
use Rattle.std.proofs.lemmas.Result.{err_from_is_err_and}
use Rattle.std.specs.Prelude.{Err, Result}
use Rattle.line_splitter.specs.Cuts.{IsCutRule}
use Rattle.file_pass.specs.Full.{lines_text}
use Rattle.pipeline.specs.Fed.{GoesOn}
use Rattle.pipeline.specs.Parts.{settings_of, network}
use Rattle.pipeline.specs.Tokens.{first_cut_of, tokens_of}
use Rattle.standing.specs.Marks.{Mark}
use Rattle.stream_lines.specs.Prints.{PrintsAll, Tells}
use Rattle.stream_lines.specs.StreamLines.{open_lines, stream_origin}
use Rattle.stream_lines.specs.declared.fault.StreamFault.{StreamFault}
use Rattle.stream_lines.proofs.PrintLemmas.{earlier_part, memory_tells}
use Rattle.stream_lines.proofs.StreamLemmas.{CutLaws, LineLaws, OutputLaws, fed_all, fed_lines, fed_marks, fed_stands, fed_waits, open_grows, used_few}
use Rattle.stream_lines.proofs.stream.Stream.feed.Goals as goal
use Rattle.file_pass.proofs.GoingOn.{text_append}

pub returns-in_err-extend_from_slice-clause-tells : goal.returns-in_err-extend_from_slice-clause-tells
returns-in_err-extend_from_slice-clause-tells g c = λ given begun taken so_far.
    let pipeline = c.args.pipeline.now in
    let observed = c.args.observed in
    let first = first_cut_of (settings_of pipeline) in
    let rule : IsCutRule first = c.tokens_are_cut_by_a_rule.ensures in
    let laws : CutLaws first = record { go_on = c.cuts_go_on.ensures first rule; all = c.cuts_up_to_a_bound.ensures.all first rule; within = c.cuts_up_to_a_bound.ensures.within first rule; lasting = c.cuts_up_to_a_bound.ensures.lasting first rule } in
    let out : OutputLaws pipeline = record { none = c.go_on.ensures.none; nothing = c.go_on.ensures.nothing; kept = c.go_on.ensures.kept; given = c.go_on.ensures.given } in
    let made = err_from_is_err_and c.from_residual.result c.from_residual.ensures.1 in
    let grows = open_grows pipeline laws out observed given c.args.piece.now in
    memory_tells (open_lines pipeline observed (given ++ c.args.piece.now)) c.from_residual.result begun _ (made.1 ∙ ap Err made.2) (earlier_part (open_lines pipeline observed given) grows.0 _ begun _ grows.1 so_far)

pub returns-in_err-used-clause-tells : goal.returns-in_err-used-clause-tells
returns-in_err-used-clause-tells g c = λ given begun taken so_far.
    let pipeline = c.args.pipeline.now in
    let observed = c.args.observed in
    let first = first_cut_of (settings_of pipeline) in
    let rule : IsCutRule first = c.tokens_are_cut_by_a_rule.ensures in
    let laws : CutLaws first = record { go_on = c.cuts_go_on.ensures first rule; all = c.cuts_up_to_a_bound.ensures.all first rule; within = c.cuts_up_to_a_bound.ensures.within first rule; lasting = c.cuts_up_to_a_bound.ensures.lasting first rule } in
    let out : OutputLaws pipeline = record { none = c.go_on.ensures.none; nothing = c.go_on.ensures.nothing; kept = c.go_on.ensures.kept; given = c.go_on.ensures.given } in
    let made = err_from_is_err_and c.from_residual-in_err-used.result c.from_residual-in_err-used.ensures.1 in
    let grows = open_grows pipeline laws out observed given c.args.piece.now in
    memory_tells (open_lines pipeline observed (given ++ c.args.piece.now)) c.from_residual-in_err-used.result begun _ (made.1 ∙ ap Err made.2) (earlier_part (open_lines pipeline observed given) grows.0 _ begun _ grows.1 so_far)

pub returns-in_err-print-clause-tells : goal.returns-in_err-print-clause-tells
returns-in_err-print-clause-tells g c = λ given begun taken so_far.
    let pipeline = c.args.pipeline.now in
    let observed = c.args.observed in
    let first = first_cut_of (settings_of pipeline) in
    let rule : IsCutRule first = c.tokens_are_cut_by_a_rule.ensures in
    let laws : CutLaws first = record { go_on = c.cuts_go_on.ensures first rule; all = c.cuts_up_to_a_bound.ensures.all first rule; within = c.cuts_up_to_a_bound.ensures.within first rule; lasting = c.cuts_up_to_a_bound.ensures.lasting first rule } in
    let out : OutputLaws pipeline = record { none = c.go_on.ensures.none; nothing = c.go_on.ensures.nothing; kept = c.go_on.ensures.kept; given = c.go_on.ensures.given } in
    let lines : LineLaws = record { none = c.lines_append.ensures.none; more = c.lines_append.ensures.more; append = c.lines_append.ensures.append } in
    let settings = settings_of pipeline in
    let bytes : List ℕ = c.deref.result.now in
    let behind : bytes ≡ c.args.self.now.waiting.items ++ c.args.piece.now = c.deref.ensures.value ∙ c.in_ok-extend_from_slice.ensures.items in
    let goes : GoesOn settings (network pipeline) (stream_origin observed) (tokens_of settings given) (tokens_of settings bytes) c.feed.new.state c.clear.new.self.items c.feed.new.out.items =
    c.in_ok-used.ensures.goes_on (tokens_of settings given) taken.stands in
    let marks : List Mark = fed_marks pipeline laws out observed lines given c.args.self.now taken c.args.piece.now bytes c.feed.new.state c.clear.new.self.items c.feed.new.out.items behind c.clear.ensures.items goes in
    let tells = c.in_err-print.ensures.tells (open_lines pipeline observed given) marks begun (c.deref-2.ensures.value ∙ fed_lines pipeline laws out observed lines given c.args.self.now taken c.args.piece.now bytes c.feed.new.state c.clear.new.self.items c.feed.new.out.items behind c.clear.ensures.items goes) taken.printed so_far in
    let made = err_from_is_err_and c.from_residual-in_err-print.result c.from_residual-in_err-print.ensures.1 in
    subst (λ (r : Result Unit StreamFault). Tells (open_lines pipeline observed (given ++ c.args.piece.now)) r begun (g.K.Sink.meaning.written c.print.new.report)) (sym (made.1 ∙ ap Err made.2))
    (subst (λ (l : List Mark). Tells l (Err c.in_err-print.field-0.0) begun (g.K.Sink.meaning.written c.print.new.report)) (sym (fed_all pipeline laws out observed lines given c.args.self.now taken c.args.piece.now bytes c.feed.new.state c.clear.new.self.items c.feed.new.out.items behind c.clear.ensures.items goes)) tells)

pub returns-clause-tells : goal.returns-clause-tells
returns-clause-tells g c = λ given begun taken so_far.
    let pipeline = c.args.pipeline.now in
    let observed = c.args.observed in
    let first = first_cut_of (settings_of pipeline) in
    let rule : IsCutRule first = c.tokens_are_cut_by_a_rule.ensures in
    let laws : CutLaws first = record { go_on = c.cuts_go_on.ensures first rule; all = c.cuts_up_to_a_bound.ensures.all first rule; within = c.cuts_up_to_a_bound.ensures.within first rule; lasting = c.cuts_up_to_a_bound.ensures.lasting first rule } in
    let out : OutputLaws pipeline = record { none = c.go_on.ensures.none; nothing = c.go_on.ensures.nothing; kept = c.go_on.ensures.kept; given = c.go_on.ensures.given } in
    let lines : LineLaws = record { none = c.lines_append.ensures.none; more = c.lines_append.ensures.more; append = c.lines_append.ensures.append } in
    let settings = settings_of pipeline in
    let bytes : List ℕ = c.deref.result.now in
    let behind : bytes ≡ c.args.self.now.waiting.items ++ c.args.piece.now = c.deref.ensures.value ∙ c.in_ok-extend_from_slice.ensures.items in
    let goes : GoesOn settings (network pipeline) (stream_origin observed) (tokens_of settings given) (tokens_of settings bytes) c.feed.new.state c.clear.new.self.items c.feed.new.out.items =
    c.in_ok-used.ensures.goes_on (tokens_of settings given) taken.stands in
    let marks : List Mark = fed_marks pipeline laws out observed lines given c.args.self.now taken c.args.piece.now bytes c.feed.new.state c.clear.new.self.items c.feed.new.out.items behind c.clear.ensures.items goes in
    let tells = c.in_ok-print.ensures.tells (open_lines pipeline observed given) marks begun (c.deref-2.ensures.value ∙ fed_lines pipeline laws out observed lines given c.args.self.now taken c.args.piece.now bytes c.feed.new.state c.clear.new.self.items c.feed.new.out.items behind c.clear.ensures.items goes) taken.printed so_far in
    subst (λ (l : List Mark). PrintsAll l begun (g.K.Sink.meaning.written c.print.new.report)) (sym (fed_all pipeline laws out observed lines given c.args.self.now taken c.args.piece.now bytes c.feed.new.state c.clear.new.self.items c.feed.new.out.items behind c.clear.ensures.items goes)) tells

pub returns-clause-taken : goal.returns-clause-taken
returns-clause-taken g c = λ given taken.
    let pipeline = c.args.pipeline.now in
    let observed = c.args.observed in
    let first = first_cut_of (settings_of pipeline) in
    let rule : IsCutRule first = c.tokens_are_cut_by_a_rule.ensures in
    let laws : CutLaws first = record { go_on = c.cuts_go_on.ensures first rule; all = c.cuts_up_to_a_bound.ensures.all first rule; within = c.cuts_up_to_a_bound.ensures.within first rule; lasting = c.cuts_up_to_a_bound.ensures.lasting first rule } in
    let out : OutputLaws pipeline = record { none = c.go_on.ensures.none; nothing = c.go_on.ensures.nothing; kept = c.go_on.ensures.kept; given = c.go_on.ensures.given } in
    let lines : LineLaws = record { none = c.lines_append.ensures.none; more = c.lines_append.ensures.more; append = c.lines_append.ensures.append } in
    let settings = settings_of pipeline in
    let bytes : List ℕ = c.deref.result.now in
    let behind : bytes ≡ c.args.self.now.waiting.items ++ c.args.piece.now = c.deref.ensures.value ∙ c.in_ok-extend_from_slice.ensures.items in
    let goes : GoesOn settings (network pipeline) (stream_origin observed) (tokens_of settings given) (tokens_of settings bytes) c.feed.new.state c.clear.new.self.items c.feed.new.out.items =
    c.in_ok-used.ensures.goes_on (tokens_of settings given) taken.stands in
    let text = fed_lines pipeline laws out observed lines given c.args.self.now taken c.args.piece.now bytes c.feed.new.state c.clear.new.self.items c.feed.new.out.items behind c.clear.ensures.items goes in
    let all = fed_all pipeline laws out observed lines given c.args.self.now taken c.args.piece.now bytes c.feed.new.state c.clear.new.self.items c.feed.new.out.items behind c.clear.ensures.items goes in
    record {
      stands = fed_stands pipeline laws out observed lines given c.args.self.now taken c.args.piece.now bytes c.feed.new.state c.clear.new.self.items c.feed.new.out.items behind c.clear.ensures.items goes;
      waits = c.drop_front.ensures ∙ ap (drop c.in_ok-used.used) (sym c.deref.ensures.value) ∙ ap (λ (n : ℕ). drop n bytes) c.in_ok-used.ensures.used ∙ fed_waits pipeline laws out observed lines given c.args.self.now taken c.args.piece.now bytes c.feed.new.state c.clear.new.self.items c.feed.new.out.items behind c.clear.ensures.items goes;
      printed = omega (
        arith,
        c.in_ok-print.ensures.printed,
        taken.printed,
        ap length c.deref-2.ensures.value,
        ap length text,
        ap (λ (l : List Mark). length (lines_text l)) all,
        ap length (text_append (open_lines pipeline observed given) (fed_marks pipeline laws out observed lines given c.args.self.now taken c.args.piece.now bytes c.feed.new.state c.clear.new.self.items c.feed.new.out.items behind c.clear.ensures.items goes)),
        length-append (lines_text (open_lines pipeline observed given)) (lines_text (fed_marks pipeline laws out observed lines given c.args.self.now taken c.args.piece.now bytes c.feed.new.state c.clear.new.self.items c.feed.new.out.items behind c.clear.ensures.items goes)),
      );
    }

pub returns-clause-sane : goal.returns-clause-sane
returns-clause-sane g c = λ many sane.
    let pipeline = c.args.pipeline.now in
    let observed = c.args.observed in
    let first = first_cut_of (settings_of pipeline) in
    let rule : IsCutRule first = c.tokens_are_cut_by_a_rule.ensures in
    let laws : CutLaws first = record { go_on = c.cuts_go_on.ensures first rule; all = c.cuts_up_to_a_bound.ensures.all first rule; within = c.cuts_up_to_a_bound.ensures.within first rule; lasting = c.cuts_up_to_a_bound.ensures.lasting first rule } in
    let out : OutputLaws pipeline = record { none = c.go_on.ensures.none; nothing = c.go_on.ensures.nothing; kept = c.go_on.ensures.kept; given = c.go_on.ensures.given } in
    let bytes : List ℕ = c.deref.result.now in
    let behind : bytes ≡ c.args.self.now.waiting.items ++ c.args.piece.now = c.deref.ensures.value ∙ c.in_ok-extend_from_slice.ensures.items in
    record {
      states = c.in_ok-used.ensures.states;
      lines = omega (arith, sane.lines, c.in_ok-used.ensures.lines, c.in_ok-print.ensures.printed, ap length c.deref-2.ensures.value);
      within = c.in_ok-print.ensures.limit;
      records = omega (
        arith,
        sane.records,
        c.in_ok-used.ensures.records,
        c.in_ok-used.ensures.used,
        used_few pipeline laws bytes,
        ap length c.drop_front.ensures,
        length-drop c.in_ok-used.used c.extend_from_slice.new.self.items,
        ap length behind,
        length-append c.args.self.now.waiting.items c.args.piece.now,
        ap length c.deref.ensures.value,
      );
    }
