use Rattle.std.proofs.Common.{ℕ, List, arith}
use Rattle.state_codec.specs.Spelling.{bytes_spelling}
use Rattle.state_codec.specs.Rules.{IsShortText}
use Rattle.state_codec.specs.Reading.{text_at}
use Rattle.state_codec.proofs.GetLemmas.{reads_ok, reads_told}
use Rattle.state_codec.proofs.FairReaders.{fair_text}
use Rattle.state_codec.proofs.Readers.{text_reader}
use Rattle.state_codec.proofs.get.get_text.Goals as goal

pub overflow_sub-result : goal.overflow_sub-result
overflow_sub-result c =
    (reads_ok bytes_spelling IsShortText text_at text_reader c.args.bytes.now c.args.at c.in-Ok.value c.in-Ok.rest.now (λ i. omega (arith, c.type_inv.bytes i))
    (rw c.behind.ensures at c.in-Ok.ensures)).1

pub returns-in-Ok : goal.returns-in-Ok
returns-in-Ok c =
    (reads_ok bytes_spelling IsShortText text_at text_reader c.args.bytes.now c.args.at c.in-Ok.value c.in-Ok.rest.now (λ i. omega (arith, c.type_inv.bytes i))
    (rw c.behind.ensures at c.in-Ok.ensures)).0

pub returns-in-Err : goal.returns-in-Err
returns-in-Err c = reads_told (λ (t : List ℕ). t) bytes_spelling IsShortText text_at text_reader fair_text c.args.bytes.now c.args.at c.in-Err.fault c.told.result (λ i. omega (arith, c.type_inv.bytes i)) (rw c.behind.ensures at c.in-Err.ensures) c.told.ensures
