-- What a source in memory still has to give, and the failures that were set.
use Rattle.std.specs.Prelude.{ℕ, List, drop, Some}
use Rattle.outside.specs.StreamMeaning.{SourceMeaning}
use Rattle.mem_world.specs.declared.source.MemSource.{MemSource}

abbrev pub rest_of : MemSource → List ℕ
rest_of source = drop source.position source.bytes.items

abbrev pub piece_of : MemSource → ℕ
piece_of source = source.piece

abbrev pub failures_of : MemSource → List ℕ
failures_of source = source.failures.ahead.items

abbrev pub faults_of : MemSource → ℕ
faults_of source = source.failures.faults

abbrev pub source_meaning : SourceMeaning MemSource
source_meaning = record { rest = λ source. Some (rest_of source); faults = faults_of }
