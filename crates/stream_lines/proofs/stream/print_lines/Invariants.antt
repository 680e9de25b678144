use Rattle.std.proofs.Common.{◌≡◌, ◌+◌, List, ℕ, length}
use Rattle.std.specs.Prelude.{false}
use Rattle.file_pass.specs.Full.{lines_text}
use Rattle.outside.specs.World.{Told}
use Rattle.stream_lines.specs.Inner.HasTaken.{HasTaken, IsSane}
use Rattle.stream_lines.specs.Limits.{most_taken}
use Rattle.stream_lines.specs.Prints.{Prints}
use Rattle.stream_lines.specs.StreamLines.{open_lines}
use Rattle.stream_lines.specs.Streams.{Gives}
use Rattle.stream_lines.proofs.stream.print_lines.Given as goal

abbrev pub invariant-loop-left : goal.invariant-loop-left
invariant-loop-left g l =
    let source = g.S.Source.meaning in
    let sink = g.K.Sink.meaning in
    record {
      given : List ℕ;
      gives : Told (Gives given false) (source.rest l.fn.source) (source.rest l.source);
      counted : length given + l.left ≡ most_taken;
      taken : HasTaken l.pipeline l.observed given l.stream;
      sane : IsSane l.pipeline l.stream (length given);
      told : Told (Prints (lines_text (open_lines l.pipeline l.observed given))) (sink.written l.fn.report) (sink.written l.report);
      long : length l.buffer.items ≡ 65536;
      source_stood : source.faults l.source ≡ source.faults l.fn.source;
      report_stood : sink.faults l.report ≡ sink.faults l.fn.report;
    }

abbrev pub decreases-loop-left : goal.decreases-loop-left
decreases-loop-left g l = l.left
