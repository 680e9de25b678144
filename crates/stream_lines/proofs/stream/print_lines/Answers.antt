use Rattle.std.proofs.Common.{rules, ◌≡◌, [], ◌++◌, List, ℕ, length, take, drop, false, sym, ap, subst, refl, ◌∙◌, arith, length-append}
use Rattle.std.proofs.lemmas.List.{length-take-le}
use Rattle.std.proofs.lemmas.Result.{err_from_is_err_and}
use Rattle.std.specs.Prelude.{Err, Result}
use Rattle.file_pass.specs.Full.{lines_text}
use Rattle.outside.specs.Stream.{Takes}
use Rattle.outside.specs.World.{Told}
use Rattle.standing.specs.Marks.{Mark}
use Rattle.stream_lines.specs.Causes.{HasSourceCause}
use Rattle.stream_lines.specs.Inner.HasTaken.{HasTaken, IsSane}
use Rattle.stream_lines.specs.Prints.{Prints, Tells}
use Rattle.stream_lines.specs.StreamLines.{open_lines, whole_lines}
use Rattle.stream_lines.specs.Streams.{Streams}
use Rattle.stream_lines.specs.declared.fault.StreamFault.{StreamFault}
use Rattle.stream_lines.specs.declared.fault.StreamFault.TheVariants.{Memory}
use Rattle.stream_lines.proofs.Courses.{ends, gives_end, gives_none, gives_on, gives_same, prints_open, stops, written_back}
use Rattle.stream_lines.proofs.PrintLemmas.{no_part, no_read, nothing_printed}
use Rattle.stream_lines.proofs.stream.print_lines.Goals as goal

pub returns-in_err-stream-clause-streams : goal.returns-in_err-stream-clause-streams
returns-in_err-stream-clause-streams g c =
    let pipeline = c.args.pipeline.now in
    let observed = c.args.observed in
    let rest = g.S.Source.meaning.rest c.args.source.now in
    let written = g.K.Sink.meaning.written c.args.report.now in
    let made = err_from_is_err_and c.from_residual.result c.from_residual.ensures.1 in
    subst (λ (r : Result Unit StreamFault). Streams pipeline observed rest rest written written r) (sym (made.1 ∙ ap Err made.2))
    (stops pipeline observed rest rest written written [] false Memory (gives_none rest) (omega arith) (no_part (lines_text (open_lines pipeline observed [])) written))

pub loop-left-init : goal.loop-left-init
loop-left-init g c = record {
  given = [];
  gives = gives_none (g.S.Source.meaning.rest c.args.source.now);
  counted = omega arith;
  taken = c.in_ok-stream.ensures.taken c.args.observed;
  sane = c.in_ok-stream.ensures.sane;
  told = subst (λ (l : List Mark). Told (Prints (lines_text l)) (g.K.Sink.meaning.written c.args.report.now) (g.K.Sink.meaning.written c.args.report.now)) (sym (c.in_ok-stream.ensures.no_lines c.args.observed))
      (nothing_printed (g.K.Sink.meaning.written c.args.report.now));
  long = search rules;
  source_stood = refl;
  report_stood = refl;
}

pub returns-in_err-count-clause-streams : goal.returns-in_err-count-clause-streams
returns-in_err-count-clause-streams g c =
    let pipeline = c.args.pipeline.now in
    let observed = c.args.observed in
    let inv = c.loop-left.invariant in
    let rest = g.S.Source.meaning.rest in
    let written = g.K.Sink.meaning.written in
    let made = err_from_is_err_and c.from_residual-in_err-count.result c.from_residual-in_err-count.ensures.1 in
    subst (λ (r : Result Unit StreamFault). Streams pipeline observed (rest c.args.source.now) (rest c.read_piece.new.source) (written c.args.report.now) (written c.loop-left.report) r) (sym (made.1 ∙ ap Err made.2))
    (record {
      given = inv.given;
      gives = gives_same inv.given (rest c.args.source.now) (rest c.loop-left.source) (rest c.read_piece.new.source) inv.gives c.in_err-count.ensures.taken;
      fewer = omega (arith, inv.counted, c.loop-left-test.true);
      prints = prints_open pipeline observed inv.given c.loop-left.stream (length inv.given) (written c.args.report.now) (written c.loop-left.report) inv.taken inv.sane inv.told;
    })

pub returns-then-count-eq0-clause-streams : goal.returns-then-count-eq0-clause-streams
returns-then-count-eq0-clause-streams g c =
    let pipeline = c.args.pipeline.now in
    let observed = c.args.observed in
    let inv = c.loop-left.invariant in
    let rest = g.S.Source.meaning.rest in
    let written = g.K.Sink.meaning.written in
    let none : Told (Takes c.read_piece.new.buffer 0) (rest c.loop-left.source) (rest c.read_piece.new.source) =
    subst (λ (n : ℕ). Told (Takes c.read_piece.new.buffer n) (rest c.loop-left.source) (rest c.read_piece.new.source)) c.if-count-eq0.true c.in_ok-count.ensures.taken in
    ends pipeline observed (rest c.args.source.now) (rest c.read_piece.new.source) (written c.args.report.now) (written c.finish.new.report) inv.given c.finish.result
    (gives_end inv.given c.read_piece.new.buffer (rest c.args.source.now) (rest c.loop-left.source) (rest c.read_piece.new.source) (omega (arith, inv.long, ap length c.deref_mut.ensures.value, c.read_piece.ensures.long)) inv.gives none)
    (omega (arith, inv.counted, c.loop-left-test.true))
    (c.finish.ensures.tells inv.given (written c.args.report.now) inv.taken inv.told)

pub returns-then-count-eq0-clause-source_cause : goal.returns-then-count-eq0-clause-source_cause
returns-then-count-eq0-clause-source_cause g c =
    let inv = c.loop-left.invariant in
    let written = g.K.Sink.meaning.written in
    no_read (whole_lines c.args.pipeline.now c.args.observed inv.given) c.finish.result (written c.args.report.now) (written c.finish.new.report) _ _
    (c.finish.ensures.tells inv.given (written c.args.report.now) inv.taken inv.told) (c.in_ok-count.ensures.cause ∙ inv.source_stood)

pub loop-left-preserved : goal.loop-left-preserved
loop-left-preserved g c =
    let pipeline = c.args.pipeline.now in
    let observed = c.args.observed in
    let inv = c.loop-left.invariant in
    let rest = g.S.Source.meaning.rest in
    let written = g.K.Sink.meaning.written in
    let piece : List ℕ = take c.in_ok-count.count c.read_piece.new.buffer in
    let size : length piece ≡ c.in_ok-count.count = length-take-le c.in_ok-count.count c.read_piece.new.buffer c.in_ok-count.ensures.within in
    let back : take c.loop-left.buffer.len (c.read_piece.new.buffer ++ drop (length c.read_piece.new.buffer) c.loop-left.buffer.items) ≡ c.read_piece.new.buffer =
    written_back c.loop-left.buffer.len c.read_piece.new.buffer (drop (length c.read_piece.new.buffer) c.loop-left.buffer.items) (c.read_piece.ensures.long ∙ c.deref_mut.ensures.len) in
    let fed : take c.in_ok-count.count c.deref.result.now ≡ piece = ap (take c.in_ok-count.count) (c.deref.ensures.value ∙ back) in
    record {
      given = inv.given ++ piece;
      gives = gives_on inv.given c.read_piece.new.buffer c.in_ok-count.count (rest c.args.source.now) (rest c.loop-left.source) (rest c.read_piece.new.source) inv.gives c.in_ok-count.ensures.taken;
      counted = omega (arith, inv.counted, length-append inv.given piece, size, c.in_ok-count.ensures.left);
      taken = subst (λ (l : List ℕ). HasTaken pipeline observed (inv.given ++ l) c.feed.new.self) fed (c.in_ok-feed.ensures.taken inv.given inv.taken);
      sane = subst (λ (n : ℕ). IsSane pipeline c.feed.new.self n) (omega (arith, ap length fed, length-append inv.given piece)) (c.in_ok-feed.ensures.sane (length inv.given) inv.sane);
      told = subst (λ (l : List ℕ). Told (Prints (lines_text (open_lines pipeline observed (inv.given ++ l)))) (written c.args.report.now) (written c.feed.new.report)) fed
          (c.in_ok-feed.ensures.tells inv.given (written c.args.report.now) inv.taken inv.told).told;
      long = omega (arith, ap length back, inv.long, ap length c.deref_mut.ensures.value, c.read_piece.ensures.long);
      source_stood = c.in_ok-count.ensures.cause ∙ inv.source_stood;
      report_stood = c.in_ok-feed.ensures.cause ∙ inv.report_stood;
    }

pub returns-in_err-feed-clause-streams : goal.returns-in_err-feed-clause-streams
returns-in_err-feed-clause-streams g c =
    let pipeline = c.args.pipeline.now in
    let observed = c.args.observed in
    let inv = c.loop-left.invariant in
    let rest = g.S.Source.meaning.rest in
    let written = g.K.Sink.meaning.written in
    let piece : List ℕ = take c.in_ok-count.count c.read_piece.new.buffer in
    let size : length piece ≡ c.in_ok-count.count = length-take-le c.in_ok-count.count c.read_piece.new.buffer c.in_ok-count.ensures.within in
    let back : take c.loop-left.buffer.len (c.read_piece.new.buffer ++ drop (length c.read_piece.new.buffer) c.loop-left.buffer.items) ≡ c.read_piece.new.buffer =
    written_back c.loop-left.buffer.len c.read_piece.new.buffer (drop (length c.read_piece.new.buffer) c.loop-left.buffer.items) (c.read_piece.ensures.long ∙ c.deref_mut.ensures.len) in
    let fed : take c.in_ok-count.count c.deref.result.now ≡ piece = ap (take c.in_ok-count.count) (c.deref.ensures.value ∙ back) in
    let made = err_from_is_err_and c.from_residual-in_err-feed.result c.from_residual-in_err-feed.ensures.1 in
    let tells = subst (λ (l : List ℕ). Tells (open_lines pipeline observed (inv.given ++ l)) (Err c.in_err-feed.field-0.0) (written c.args.report.now) (written c.feed.new.report)) fed
    (c.in_err-feed.ensures.tells inv.given (written c.args.report.now) inv.taken inv.told) in
    subst (λ (r : Result Unit StreamFault). Streams pipeline observed (rest c.args.source.now) (rest c.read_piece.new.source) (written c.args.report.now) (written c.feed.new.report) r) (sym (made.1 ∙ ap Err made.2))
    (stops pipeline observed (rest c.args.source.now) (rest c.read_piece.new.source) (written c.args.report.now) (written c.feed.new.report) (inv.given ++ piece) false c.in_err-feed.field-0.0
    (gives_on inv.given c.read_piece.new.buffer c.in_ok-count.count (rest c.args.source.now) (rest c.loop-left.source) (rest c.read_piece.new.source) inv.gives c.in_ok-count.ensures.taken)
    (omega (arith, inv.counted, length-append inv.given piece, size, c.in_ok-count.ensures.left)) tells)

pub returns-in_err-feed-clause-source_cause : goal.returns-in_err-feed-clause-source_cause
returns-in_err-feed-clause-source_cause g c =
    let pipeline = c.args.pipeline.now in
    let observed = c.args.observed in
    let inv = c.loop-left.invariant in
    let written = g.K.Sink.meaning.written in
    let made = err_from_is_err_and c.from_residual-in_err-feed.result c.from_residual-in_err-feed.ensures.1 in
    subst (λ (r : Result Unit StreamFault). HasSourceCause r (g.S.Source.meaning.faults c.args.source.now) (g.S.Source.meaning.faults c.read_piece.new.source)) (sym (made.1 ∙ ap Err made.2))
    (no_read _ (Err c.in_err-feed.field-0.0) (written c.args.report.now) (written c.feed.new.report) _ _
    (c.in_err-feed.ensures.tells inv.given (written c.args.report.now) inv.taken inv.told) (c.in_ok-count.ensures.cause ∙ inv.source_stood))
