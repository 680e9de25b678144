use Rattle.std.proofs.Common.{Vec, Global, ◌^◌, ◌<◌, ℕ, List, length, arith}
use Rattle.state_codec.specs.Spelling.{bytes_spelling}
use Rattle.state_codec.specs.Reading.{bytes_at}
use Rattle.state_codec.proofs.GetLemmas.{reads_ok, reads_told}
use Rattle.state_codec.proofs.FairReaders.{fair_bytes}
use Rattle.state_codec.proofs.Readers.{bytes_reader}
use Rattle.state_codec.proofs.get.get_bytes.Goals as goal

pub overflow_sub-result : goal.overflow_sub-result
overflow_sub-result c =
    (reads_ok bytes_spelling (λ (v : List ℕ). length v < 2 ^ 32) bytes_at bytes_reader c.args.bytes.now c.args.at c.in-Ok.value.items c.in-Ok.rest.now (λ i. omega (arith, c.type_inv.bytes i))
    (rw c.behind.ensures at c.in-Ok.ensures)).1

pub returns-in-Ok : goal.returns-in-Ok
returns-in-Ok c =
    (reads_ok bytes_spelling (λ (v : List ℕ). length v < 2 ^ 32) bytes_at bytes_reader c.args.bytes.now c.args.at c.in-Ok.value.items c.in-Ok.rest.now (λ i. omega (arith, c.type_inv.bytes i))
    (rw c.behind.ensures at c.in-Ok.ensures)).0

pub returns-in-Err : goal.returns-in-Err
returns-in-Err c = reads_told (λ (v : Vec ℕ Global). v.items) bytes_spelling (λ (v : List ℕ). length v < 2 ^ 32) bytes_at bytes_reader fair_bytes c.args.bytes.now c.args.at c.in-Err.fault c.told.result (λ i. omega (arith, c.type_inv.bytes i)) (rw c.behind.ensures at c.in-Err.ensures) c.told.ensures
