use Rattle.std.proofs.Common.{◌≡◌, ◌∙◌, ◌+◌, List, ℕ, length, sym, ap, subst, Err}
use Rattle.standing.specs.Marks.{Mark}
use Rattle.standing.specs.Rows.{Row}
use Rattle.file_pass.specs.DiskTerms.{Appends}
use Rattle.file_pass.specs.Fed.{feeding_row, poll_of, rules_in}
use Rattle.file_pass.specs.Flushed.{look_of}
use Rattle.file_pass.specs.Full.{Crosses, lines_text}
use Rattle.file_pass.specs.declared.fault.PassFault.TheVariants.{OutputFull}
use Rattle.file_pass.proofs.DiskLemmas.{appends_none}
use Rattle.file_pass.proofs.FlushLemmas.{row_at_flush, row_at_look, lines_at_flush, lines_at_look}
use Rattle.file_pass.proofs.flushing.look_on.Goals as goal

pub returns-in_ok-flush-clause-row : goal.returns-in_ok-flush-clause-row
returns-in_ok-flush-clause-row g c =
    let rules = rules_in c.args.setup.now in
    let poll = poll_of c.args.setup.now in
    let bytes : List ℕ = c.args.feeding.now.carried.items in
    let size : ℕ = c.args.feeding.now.offset + length bytes in
    let row : Row = feeding_row c.args.feeding.now in
    let many : c.len.result ≡ length bytes = c.len.ensures ∙ c.args.feeding.now.carried.ok.0 in
    let look : c.look-flushes.result ≡ look_of rules size row = rw (many, c.waits-pending.ensures, c.flush_after.ensures) at c.look-flushes.ensures.is in
    c.in_ok-flush.ensures.row ∙ row_at_flush poll size bytes row c.look-flushes.result look c.if-flushes.true

pub returns-in_ok-flush-clause-ok : goal.returns-in_ok-flush-clause-ok
returns-in_ok-flush-clause-ok g c =
    let rules = rules_in c.args.setup.now in
    let poll = poll_of c.args.setup.now in
    let bytes : List ℕ = c.args.feeding.now.carried.items in
    let size : ℕ = c.args.feeding.now.offset + length bytes in
    let row : Row = feeding_row c.args.feeding.now in
    let many : c.len.result ≡ length bytes = c.len.ensures ∙ c.args.feeding.now.carried.ok.0 in
    let look : c.look-flushes.result ≡ look_of rules size row = rw (many, c.waits-pending.ensures, c.flush_after.ensures) at c.look-flushes.ensures.is in
    subst (λ (ms : List Mark). Appends g.D.Disk.meaning (lines_text ms) c.args.end.now c.flush.new.end c.args.disk.now c.flush.new.disk) (lines_at_flush poll size bytes row c.look-flushes.result look c.if-flushes.true) c.in_ok-flush.ensures.ok

pub returns-in_ok-flush-clause-flushed : goal.returns-in_ok-flush-clause-flushed
returns-in_ok-flush-clause-flushed g c =
    let rules = rules_in c.args.setup.now in
    let poll = poll_of c.args.setup.now in
    let bytes : List ℕ = c.args.feeding.now.carried.items in
    let size : ℕ = c.args.feeding.now.offset + length bytes in
    let row : Row = feeding_row c.args.feeding.now in
    let many : c.len.result ≡ length bytes = c.len.ensures ∙ c.args.feeding.now.carried.ok.0 in
    let look : c.look-flushes.result ≡ look_of rules size row = rw (many, c.waits-pending.ensures, c.flush_after.ensures) at c.look-flushes.ensures.is in
    c.flush.ensures.flushed ∙ ap (λ l. l.1) look

pub returns-in_err-flush-clause-full : goal.returns-in_err-flush-clause-full
returns-in_err-flush-clause-full g c = λ full is.
    let rules = rules_in c.args.setup.now in
    let poll = poll_of c.args.setup.now in
    let bytes : List ℕ = c.args.feeding.now.carried.items in
    let size : ℕ = c.args.feeding.now.offset + length bytes in
    let row : Row = feeding_row c.args.feeding.now in
    let many : c.len.result ≡ length bytes = c.len.ensures ∙ c.args.feeding.now.carried.ok.0 in
    let look : c.look-flushes.result ≡ look_of rules size row = rw (many, c.waits-pending.ensures, c.flush_after.ensures) at c.look-flushes.ensures.is in
    let same : OutputFull full ≡ c.in_err-flush.field-0.0 = rw is at c.from_residual.ensures.1 in
    subst (λ (ms : List Mark). Crosses c.args.setup.now.limit c.args.end.now ms full) (lines_at_flush poll size bytes row c.look-flushes.result look c.if-flushes.true) (c.in_err-flush.ensures.full full (ap Err (sym same)))

pub returns-else-flushes-clause-row : goal.returns-else-flushes-clause-row
returns-else-flushes-clause-row g c =
    let rules = rules_in c.args.setup.now in
    let poll = poll_of c.args.setup.now in
    let bytes : List ℕ = c.args.feeding.now.carried.items in
    let size : ℕ = c.args.feeding.now.offset + length bytes in
    let row : Row = feeding_row c.args.feeding.now in
    let many : c.len.result ≡ length bytes = c.len.ensures ∙ c.args.feeding.now.carried.ok.0 in
    let look : c.look-flushes.result ≡ look_of rules size row = rw (many, c.waits-pending.ensures, c.flush_after.ensures) at c.look-flushes.ensures.is in
    row_at_look poll size bytes row c.look-flushes.result look c.if-flushes.false

pub returns-else-flushes-clause-ok : goal.returns-else-flushes-clause-ok
returns-else-flushes-clause-ok g c =
    let rules = rules_in c.args.setup.now in
    let poll = poll_of c.args.setup.now in
    let bytes : List ℕ = c.args.feeding.now.carried.items in
    let size : ℕ = c.args.feeding.now.offset + length bytes in
    let row : Row = feeding_row c.args.feeding.now in
    let many : c.len.result ≡ length bytes = c.len.ensures ∙ c.args.feeding.now.carried.ok.0 in
    let look : c.look-flushes.result ≡ look_of rules size row = rw (many, c.waits-pending.ensures, c.flush_after.ensures) at c.look-flushes.ensures.is in
    subst (λ (ms : List Mark). Appends g.D.Disk.meaning (lines_text ms) c.args.end.now c.args.end.now c.args.disk.now c.args.disk.now) (lines_at_look poll size bytes row c.look-flushes.result look c.if-flushes.false)
    (appends_none g.D.Disk.meaning c.args.end.now c.args.disk.now)

pub returns-else-flushes-clause-flushed : goal.returns-else-flushes-clause-flushed
returns-else-flushes-clause-flushed g c =
    let rules = rules_in c.args.setup.now in
    let poll = poll_of c.args.setup.now in
    let bytes : List ℕ = c.args.feeding.now.carried.items in
    let size : ℕ = c.args.feeding.now.offset + length bytes in
    let row : Row = feeding_row c.args.feeding.now in
    let many : c.len.result ≡ length bytes = c.len.ensures ∙ c.args.feeding.now.carried.ok.0 in
    let look : c.look-flushes.result ≡ look_of rules size row = rw (many, c.waits-pending.ensures, c.flush_after.ensures) at c.look-flushes.ensures.is in
    ap (λ l. l.1) look
