use Rattle.std.proofs.Common.{◌≡◌, ◌+◌, ap, ◌∙◌, length, arith}
use Rattle.std.specs.Option.{option_copied}
use Rattle.slot_store.specs.Committed.{free_file, next_slot}
use Rattle.outside.proofs.Passing.{passes_by}
use Rattle.outside.proofs.Tearing.{at_file_weaker}
use Rattle.slot_store.proofs.Counts.{not_fewer, done_err, done_more_then, written_halves, written_whole}
use Rattle.slot_store.proofs.Framed.{length-frame_body}
use Rattle.slot_store.proofs.Commits.{is_commit, replaces_cleared, keeps_cleared, commits, commits_known, passes_halves, leaves_halves, leaves_one}
use Rattle.slot_store.proofs.committing.commit.Goals as goal

pub returns-in_err-clear-clause-crash : goal.returns-in_err-clear-clause-crash
returns-in_err-clear-clause-crash g c chosen =
    let next = c.in_ok-next.next in
    let body = c.in_ok-body.body.items in
    let terms = is_commit (option_copied c.args.before) c.args.payload.items next body (c.in_ok-next.ensures.ok ∙ ap (λ bytes. next_slot (option_copied c.args.before) bytes) c.as_slice.ensures.value) c.in_ok-body.ensures c.in_ok-next.ensures.within.1 (omega (arith, c.in_ok-next.ensures.within.2, ap length c.as_slice.ensures.value)) in
    passes_by c.clear.ensures.crash (λ x y left at. commits x y terms (at_file_weaker at (replaces_cleared body (x next.file) (y next.file))) (chosen.each x left))

pub returns-in_err-clear-clause-early : goal.returns-in_err-clear-clause-early
returns-in_err-clear-clause-early g c fewer chosen =
    let next = c.in_ok-next.next in
    passes_by c.clear.ensures.crash (λ x y left at. keeps_cleared (option_copied c.args.before) next.file x y (ap (λ slot. slot.file) c.in_ok-next.ensures.ok) at (chosen.each x left))

pub write-requires-clause-ends : goal.write-requires-clause-ends
write-requires-clause-ends g c =
    let long : length c.deref.result.now ≡ length c.args.payload.items + 16 = ap length (c.deref.ensures.value ∙ c.in_ok-body.ensures) ∙ length-frame_body c.in_ok-next.next.sequence c.args.payload.items in
    omega (arith, c.in_ok-next.ensures.within.0, c.in_ok-next.ensures.within.2, ap length c.as_slice.ensures.value)

pub returns-in_err-write-clause-crash : goal.returns-in_err-write-clause-crash
returns-in_err-write-clause-crash g c chosen =
    let next = c.in_ok-next.next in
    let body = c.deref.result.now in
    let terms = is_commit (option_copied c.args.before) c.args.payload.items next body (c.in_ok-next.ensures.ok ∙ ap (λ bytes. next_slot (option_copied c.args.before) bytes) c.as_slice.ensures.value) (c.deref.ensures.value ∙ c.in_ok-body.ensures) c.in_ok-next.ensures.within.1 (omega (arith, c.in_ok-next.ensures.within.2, ap length c.as_slice.ensures.value)) in
    passes_by (passes_halves next.file body c.clear.ensures.crash c.in_ok-clear.ensures.cleared c.write.ensures.crash) (λ x y left at. commits x y terms at (chosen.each x left))

pub returns-in_err-write-clause-early : goal.returns-in_err-write-clause-early
returns-in_err-write-clause-early g c fewer chosen =
    let some = c.in_err-write.ensures.done in
    absurd (not_fewer 4 some.0 _ _ _ c.in_ok-clear.ensures.done some.2 fewer)

pub returns-in_err-write-clause-done : goal.returns-in_err-write-clause-done
returns-in_err-write-clause-done g c =
    let some = c.in_err-write.ensures.done in
    done_err c.from_residual-in_err-write.result 8 (4 + some.0) _ _ c.from_residual-in_err-write.ensures.0 (omega (arith, some.1)) (done_more_then 4 some.0 _ _ _ c.in_ok-clear.ensures.done some.2)

pub returns-in_err-write-clause-counted : goal.returns-in_err-write-clause-counted
returns-in_err-write-clause-counted g c =
    let long : length c.deref.result.now ≡ length c.args.payload.items + 16 = ap length (c.deref.ensures.value ∙ c.in_ok-body.ensures) ∙ length-frame_body c.in_ok-next.next.sequence c.args.payload.items in
    written_halves c.from_residual-in_err-write.result c.in_ok-next.next.file (free_file (option_copied c.args.before)) (length c.deref.result.now) (length c.args.payload.items + 18) _ _ _
    c.from_residual-in_err-write.ensures.0 (ap (λ slot. slot.file) c.in_ok-next.ensures.ok) (omega arith) c.in_ok-clear.ensures.counted c.in_err-write.ensures.counted

pub returns-clause-slot : goal.returns-clause-slot
returns-clause-slot g c = c.in_ok-next.ensures.ok ∙ ap (λ bytes. next_slot (option_copied c.args.before) bytes) c.as_slice.ensures.value

pub returns-clause-crash : goal.returns-clause-crash
returns-clause-crash g c chosen =
    let next = c.in_ok-next.next in
    let body = c.deref.result.now in
    let terms = is_commit (option_copied c.args.before) c.args.payload.items next body (c.in_ok-next.ensures.ok ∙ ap (λ bytes. next_slot (option_copied c.args.before) bytes) c.as_slice.ensures.value) (c.deref.ensures.value ∙ c.in_ok-body.ensures) c.in_ok-next.ensures.within.1 (omega (arith, c.in_ok-next.ensures.within.2, ap length c.as_slice.ensures.value)) in
    passes_by (passes_halves next.file body c.clear.ensures.crash c.in_ok-clear.ensures.cleared c.write.ensures.crash) (λ x y left at. commits x y terms at (chosen.each x left))

pub returns-clause-committed : goal.returns-clause-committed
returns-clause-committed g c chosen =
    let next = c.in_ok-next.next in
    let body = c.deref.result.now in
    let terms = is_commit (option_copied c.args.before) c.args.payload.items next body (c.in_ok-next.ensures.ok ∙ ap (λ bytes. next_slot (option_copied c.args.before) bytes) c.as_slice.ensures.value) (c.deref.ensures.value ∙ c.in_ok-body.ensures) c.in_ok-next.ensures.within.1 (omega (arith, c.in_ok-next.ensures.within.2, ap length c.as_slice.ensures.value)) in
    record {
      each = λ image left.
          let past = (leaves_halves next.file body c.in_ok-clear.ensures.cleared c.in_ok-write.ensures.opened).each image left in
          commits_known past.0 image terms past.2 (chosen.each past.0 past.1);
    }

pub returns-clause-early : goal.returns-clause-early
returns-clause-early g c fewer chosen =
    absurd (not_fewer 4 4 _ _ _ c.in_ok-clear.ensures.done c.in_ok-write.ensures.done fewer)

pub returns-clause-one : goal.returns-clause-one
returns-clause-one g c one =
    leaves_one c.in_ok-next.next.file _ (leaves_halves c.in_ok-next.next.file c.deref.result.now c.in_ok-clear.ensures.cleared c.in_ok-write.ensures.opened) one

pub returns-clause-counted : goal.returns-clause-counted
returns-clause-counted g c =
    let long : length c.deref.result.now ≡ length c.args.payload.items + 16 = ap length (c.deref.ensures.value ∙ c.in_ok-body.ensures) ∙ length-frame_body c.in_ok-next.next.sequence c.args.payload.items in
    written_whole c.in_ok-next.next.file (free_file (option_copied c.args.before)) (length c.deref.result.now) (length c.args.payload.items + 18) _ _ _
    (ap (λ slot. slot.file) c.in_ok-next.ensures.ok) (omega arith) c.in_ok-clear.ensures.counted c.in_ok-write.ensures.counted
