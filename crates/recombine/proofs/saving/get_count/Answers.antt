use Rattle.std.proofs.Common.{◌<◌, ◌^◌, ℕ, leb, arith, Ok, Err}
use Rattle.std.proofs.lemmas.Result.{err_from_is_err_and}
use Rattle.std.specs.Prelude.{◌&&◌}
use Rattle.std.specs.Int.{w32, to_be_bytes}
use Rattle.std.proofs.lemmas.Bool.{lt-leb, le-leb, and_right, and_from}
use Rattle.state_codec.specs.Reading.{number_at}
use Rattle.state_codec.proofs.Readers.{u32_reader}
use Rattle.recombine.specs.Limits.{group_limit}
use Rattle.recombine.proofs.SpellingLemmas.{reads_found, at_within, such_found, such_refused, such_fails}
use Rattle.recombine.proofs.saving.get_count.Goals as goal

pub returns-in_err-count-clause-told : goal.returns-in_err-count-clause-told
returns-in_err-count-clause-told c =
    let p = err_from_is_err_and c.from_residual.result c.from_residual.ensures.1 in
    rw (p.1, p.2)
    (such_fails {X = ℕ} (λ n. n) (number_at w32) (λ n. leb 0 n && leb n group_limit) c.args.bytes.now c.args.at c.in_err-count.field-0.0
    (reads_found {X = ℕ} (λ n. n) (to_be_bytes w32) (λ n. n < 2 ^ 32) (number_at w32) u32_reader c.args.bytes.now c.args.at (Err c.in_err-count.field-0.0) c.in_err-count.ensures.reads))

pub returns-then-count-gt-GROUP_LIMIT-clause-told : goal.returns-then-count-gt-GROUP_LIMIT-clause-told
returns-then-count-gt-GROUP_LIMIT-clause-told c =
    such_refused (number_at w32) (λ n. leb 0 n && leb n group_limit) c.args.bytes.now c.args.at c.in_ok-count.count c.in_ok-count.next
    (reads_found {X = ℕ} (λ n. n) (to_be_bytes w32) (λ n. n < 2 ^ 32) (number_at w32) u32_reader c.args.bytes.now c.args.at (Ok (c.in_ok-count.count, c.in_ok-count.next)) c.in_ok-count.ensures.reads)
    (at_within (to_be_bytes w32) (λ n. n < 2 ^ 32) c.args.bytes.now c.args.at c.in_ok-count.count c.in_ok-count.next c.in_ok-count.ensures.reads)
    (and_right (leb 0 c.in_ok-count.count) (leb c.in_ok-count.count group_limit) (lt-leb c.in_ok-count.count group_limit (omega (arith, c.if-count-gt-GROUP_LIMIT.true))))

pub returns-clause-told : goal.returns-clause-told
returns-clause-told c =
    such_found (number_at w32) (λ n. leb 0 n && leb n group_limit) c.args.bytes.now c.args.at c.in_ok-count.count c.in_ok-count.next
    (reads_found {X = ℕ} (λ n. n) (to_be_bytes w32) (λ n. n < 2 ^ 32) (number_at w32) u32_reader c.args.bytes.now c.args.at (Ok (c.in_ok-count.count, c.in_ok-count.next)) c.in_ok-count.ensures.reads)
    (and_from (leb 0 c.in_ok-count.count) (leb c.in_ok-count.count group_limit) (le-leb 0 c.in_ok-count.count (omega arith)) (le-leb c.in_ok-count.count group_limit (omega (arith, c.if-count-gt-GROUP_LIMIT.false))))
