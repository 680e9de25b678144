use Rattle.std.proofs.Common.{◌≡◌, ℕ, ◌+◌, List, length, drop, subst, ap, ◌∙◌, sym, arith}
use Rattle.std.proofs.lemmas.Result.{err_from_is_err_and}
use Rattle.std.specs.Prelude.{map}
use Rattle.checkpoint_store.specs.Applied.{SpellsChange}
use Rattle.checkpoint_journal.proofs.ReadingLemmas.{rest_is, changes_step, fails_step, fails_here, room_step, none_left}
use Rattle.checkpoint_journal.specs.Inner.Places.{NoChangeAt}
use Rattle.checkpoint_journal.specs.Says.{AreChanges, no_change}
use Rattle.checkpoint_journal.proofs.reading.with_changes.Goals as goal

pub returns-in_err-checkpoint-clause-bad : goal.returns-in_err-checkpoint-clause-bad
returns-in_err-checkpoint-clause-bad c at bad room =
    let records = c.args.records.now in
    let i = c.loop-payload.payload-index in
    let payload = c.payload-item.result in
    let rest = map (λ payload. payload.items) (drop i records) in
    let behind = map (λ payload. payload.items) (drop (i + 1) records) in
    let is = rest_is (λ payload. payload.items) records i payload (omega arith) c.payload-item.is in
    let left = c.loop-payload.invariant.place room in
    let takes = room_step payload.items rest behind is in
    let start_is : c.saturating_add-start.result ≡ c.loop-payload.place + 17 = omega (arith, c.saturating_add-start.ensures, left, takes) in
    let told = err_from_is_err_and c.from_residual.result c.from_residual.ensures.1 in
    let none = c.in_err-checkpoint.ensures.bad at (cc (bad, told.1, told.2)) (omega (arith, ap length c.deref.ensures.value, start_is, left, takes)) in
    fails_here c.args.version c.args.first (map (λ payload. payload.items) records) c.args.begin c.loop-payload.place c.saturating_add-start.result at c.loop-payload.checkpoint payload.items rest behind is start_is
    (subst (λ (bytes : List ℕ). NoChangeAt c.args.version c.saturating_add-start.result c.loop-payload.checkpoint bytes at) c.deref.ensures.value none)
    (c.loop-payload.invariant.fails room)

pub loop-payload-preserved : goal.loop-payload-preserved
loop-payload-preserved c =
    let records = c.args.records.now in
    let i = c.loop-payload.payload-index in
    let payload = c.payload-item.result in
    let all = map (λ payload. payload.items) records in
    let rest = map (λ payload. payload.items) (drop i records) in
    let behind = map (λ payload. payload.items) (drop (i + 1) records) in
    let is = rest_is (λ payload. payload.items) records i payload (omega arith) c.payload-item.is in
    let takes = room_step payload.items rest behind is in
    let spells : SpellsChange c.args.version c.loop-payload.checkpoint payload.items c.in_ok-checkpoint.checkpoint = subst (λ (bytes : List ℕ). SpellsChange c.args.version c.loop-payload.checkpoint bytes c.in_ok-checkpoint.checkpoint) c.deref.ensures.value c.in_ok-checkpoint.ensures.changed in
    let long : c.len.result ≡ length payload.items = c.len.ensures ∙ payload.ok.0 in
    record {
      changes = changes_step c.args.version c.args.first all c.loop-payload.checkpoint c.in_ok-checkpoint.checkpoint payload.items rest behind is spells c.loop-payload.invariant.changes;
      place = λ room.
          let left = c.loop-payload.invariant.place room in
          omega (arith, c.saturating_add-start.ensures, c.saturating_add-place.ensures, left, takes, long);
      fails = λ room.
          let left = c.loop-payload.invariant.place room in
          let next : c.saturating_add-place.result ≡ c.loop-payload.place + 17 + length payload.items = omega (arith, c.saturating_add-start.ensures, c.saturating_add-place.ensures, left, takes, long) in
          fails_step c.args.version c.args.first all c.args.begin c.loop-payload.place c.saturating_add-place.result c.loop-payload.checkpoint c.in_ok-checkpoint.checkpoint payload.items rest behind is spells next (c.loop-payload.invariant.fails room);
    }

pub returns-clause-changes : goal.returns-clause-changes
returns-clause-changes c =
    c.loop-payload.invariant.changes c.loop-payload.checkpoint
    (subst (λ (list : List (List ℕ)). AreChanges c.args.version c.loop-payload.checkpoint list c.loop-payload.checkpoint)
    (sym (none_left (λ payload. payload.items) c.args.records.now c.loop-payload.payload-index c.loop-payload-test.false)) (no_change c.loop-payload.checkpoint))
