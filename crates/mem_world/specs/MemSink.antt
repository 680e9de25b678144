-- What was written to a sink in memory, and the failures that were set.
use Rattle.std.specs.Prelude.{ℕ, List, Some}
use Rattle.outside.specs.StreamMeaning.{SinkMeaning}
use Rattle.mem_world.specs.declared.sink.MemSink.{MemSink}

abbrev pub written_of : MemSink → List ℕ
written_of sink = sink.bytes.items

abbrev pub failures_of : MemSink → List ℕ
failures_of sink = sink.failures.ahead.items

abbrev pub faults_of : MemSink → ℕ
faults_of sink = sink.failures.faults

abbrev pub sink_meaning : SinkMeaning MemSink
sink_meaning = record { written = λ sink. Some (written_of sink); faults = faults_of }
