use Rattle.std.proofs.Common.{◌≡◌, ◌<◌, ◌^◌, ℕ, false, leb, arith, Ok, Err}
use Rattle.std.proofs.lemmas.Result.{err_from_is_err_and}
use Rattle.std.specs.Prelude.{◌&&◌}
use Rattle.std.specs.Int.{w32, to_be_bytes}
use Rattle.std.proofs.lemmas.Bool.{lt-leb, le-leb, and_left, and_right, and_from}
use Rattle.state_codec.specs.Reading.{number_at}
use Rattle.state_codec.proofs.Readers.{u32_reader}
use Rattle.recombine.specs.Limits.{batch_limit}
use Rattle.recombine.proofs.SpellingLemmas.{reads_found, at_within, such_found, such_refused, such_fails}
use Rattle.recombine.proofs.saving.get_entries.Goals as goal
use Rattle.recombine.proofs.saving.get_entries.Goals.{then-entries-lt1-via-then-entries-lt1, then-entries-lt1-via-else-entries-lt1+then-entries-gt-BATCH_LIMIT}

pub returns-in_err-entries : goal.returns-in_err-entries
returns-in_err-entries c =
    let p = err_from_is_err_and c.from_residual.result c.from_residual.ensures.1 in
    rw (p.1, p.2)
    (such_fails {X = ℕ} (λ n. n) (number_at w32) (λ n. leb 1 n && leb n batch_limit) c.args.bytes.now c.args.at c.in_err-entries.field-0.0
    (reads_found {X = ℕ} (λ n. n) (to_be_bytes w32) (λ n. n < 2 ^ 32) (number_at w32) u32_reader c.args.bytes.now c.args.at (Err c.in_err-entries.field-0.0) c.in_err-entries.ensures.reads))

pub returns-then-entries-lt1 : goal.returns-then-entries-lt1
returns-then-entries-lt1 c =
    let fails : (leb 1 c.in_ok-entries.entries && leb c.in_ok-entries.entries batch_limit) ≡ false =
    elim c.then-entries-lt1.branch [
      | then-entries-lt1-via-then-entries-lt1 w ↦ and_left (leb 1 c.in_ok-entries.entries) (leb c.in_ok-entries.entries batch_limit) (lt-leb 1 c.in_ok-entries.entries (omega (arith, w.if-entries-lt1.true)))
      | then-entries-lt1-via-else-entries-lt1+then-entries-gt-BATCH_LIMIT w ↦
          and_right (leb 1 c.in_ok-entries.entries) (leb c.in_ok-entries.entries batch_limit) (lt-leb c.in_ok-entries.entries batch_limit (omega (arith, w.if-entries-gt-BATCH_LIMIT.true)))
    ] in
    such_refused (number_at w32) (λ n. leb 1 n && leb n batch_limit) c.args.bytes.now c.args.at c.in_ok-entries.entries c.in_ok-entries.next
    (reads_found {X = ℕ} (λ n. n) (to_be_bytes w32) (λ n. n < 2 ^ 32) (number_at w32) u32_reader c.args.bytes.now c.args.at (Ok (c.in_ok-entries.entries, c.in_ok-entries.next)) c.in_ok-entries.ensures.reads)
    (at_within (to_be_bytes w32) (λ n. n < 2 ^ 32) c.args.bytes.now c.args.at c.in_ok-entries.entries c.in_ok-entries.next c.in_ok-entries.ensures.reads) fails

pub returns : goal.returns
returns c =
    such_found (number_at w32) (λ n. leb 1 n && leb n batch_limit) c.args.bytes.now c.args.at c.in_ok-entries.entries c.in_ok-entries.next
    (reads_found {X = ℕ} (λ n. n) (to_be_bytes w32) (λ n. n < 2 ^ 32) (number_at w32) u32_reader c.args.bytes.now c.args.at (Ok (c.in_ok-entries.entries, c.in_ok-entries.next)) c.in_ok-entries.ensures.reads)
    (and_from (leb 1 c.in_ok-entries.entries) (leb c.in_ok-entries.entries batch_limit) (le-leb 1 c.in_ok-entries.entries (omega (arith, c.if-entries-lt1.false)))
    (le-leb c.in_ok-entries.entries batch_limit (omega (arith, c.if-entries-gt-BATCH_LIMIT.false))))
