use Rattle.std.proofs.Common.{◌^◌, ◌<◌, length, arith}
use Rattle.std.specs.Int.{w32, to_be_bytes}
use Rattle.state_codec.specs.Reading.{number_at}
use Rattle.state_codec.proofs.GetLemmas.{reads_ok, reads_err}
use Rattle.state_codec.proofs.FairReaders.{fair_u32}
use Rattle.state_codec.proofs.Readers.{u32_reader}
use Rattle.state_codec.proofs.get.get_u32.Goals as goal

pub overflow_sub-result : goal.overflow_sub-result
overflow_sub-result c =
    (reads_ok (to_be_bytes w32) (λ n. n < 2 ^ 32) (number_at w32) u32_reader c.args.bytes.now c.args.at c.in-Ok.value c.in-Ok.rest.now (λ i. omega (arith, c.type_inv.bytes i))
    (rw c.behind.ensures at c.in-Ok.ensures.exact)).1

pub returns-in-Ok-clause-reads : goal.returns-in-Ok-clause-reads
returns-in-Ok-clause-reads c =
    (reads_ok (to_be_bytes w32) (λ n. n < 2 ^ 32) (number_at w32) u32_reader c.args.bytes.now c.args.at c.in-Ok.value c.in-Ok.rest.now (λ i. omega (arith, c.type_inv.bytes i))
    (rw c.behind.ensures at c.in-Ok.ensures.exact)).0

pub returns-in-Err-clause-reads : goal.returns-in-Err-clause-reads
returns-in-Err-clause-reads c =
    reads_err (to_be_bytes w32) (λ n. n < 2 ^ 32) (number_at w32) u32_reader fair_u32 c.args.bytes.now c.args.at 0 (length c.args.bytes.now) (λ i. omega (arith, c.type_inv.bytes i))
    (rw (c.in-Err.ensures.short, c.behind.ensures) at c.in-Err.ensures.exact) (omega arith)
