use Rattle.std.proofs.Common.{arith}
use Rattle.entry_model.specs.LogRecord.{log_record}
use Rattle.state_codec.specs.Spelling.{entry_spelling}
use Rattle.state_codec.specs.Rules.{IsReadable}
use Rattle.state_codec.specs.Reading.{entry_at}
use Rattle.state_codec.proofs.GetLemmas.{reads_ok, reads_told}
use Rattle.state_codec.proofs.FairReaders.{fair_entry_at}
use Rattle.state_codec.proofs.Readers.{entry_reader}
use Rattle.state_codec.proofs.get.get_entry.Goals as goal

pub overflow_sub-result : goal.overflow_sub-result
overflow_sub-result c =
    (reads_ok entry_spelling IsReadable entry_at entry_reader c.args.bytes.now c.args.at (log_record c.in-Ok.value) c.in-Ok.rest.now (λ i. omega (arith, c.type_inv.bytes i))
    (rw c.behind.ensures at c.in-Ok.ensures)).1

pub returns-in-Ok : goal.returns-in-Ok
returns-in-Ok c =
    (reads_ok entry_spelling IsReadable entry_at entry_reader c.args.bytes.now c.args.at (log_record c.in-Ok.value) c.in-Ok.rest.now (λ i. omega (arith, c.type_inv.bytes i))
    (rw c.behind.ensures at c.in-Ok.ensures)).0

pub returns-in-Err : goal.returns-in-Err
returns-in-Err c = reads_told log_record entry_spelling IsReadable entry_at entry_reader fair_entry_at c.args.bytes.now c.args.at c.in-Err.fault c.told.result (λ i. omega (arith, c.type_inv.bytes i)) (rw c.behind.ensures at c.in-Err.ensures) c.told.ensures
