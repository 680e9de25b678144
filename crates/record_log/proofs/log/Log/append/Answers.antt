use Rattle.std.proofs.Common.{◌≡◌, ℕ, ◌+◌, List, [], ◌∷◌, length, refl, ap, ◌∙◌, inl, arith}
use Rattle.outside.proofs.Passing.{passes_by}
use Rattle.outside.proofs.Tearing.{at_file_weaker, at_file_then}
use Rattle.outside.specs.Crash.{Passes}
use Rattle.outside.specs.Image.{AtFile, Torn, Holds}
use Rattle.outside.specs.Images.{Images}
use Rattle.outside.specs.declared.disk.DiskFile.{DiskFile}
use Rattle.slot_store.proofs.Counts.{done_err, done_more_then, written_halves, written_whole}
use Rattle.slot_store.proofs.Framed.{length-frame_body}
use Rattle.slot_store.proofs.Leaving.{leaves_on, passes_on}
use Rattle.slot_store.specs.Frame.{frame_body, Opens, StaysClosed}
use Rattle.slot_store.specs.Synced.{EachLeft, LeavesChanged}
use Rattle.record_log.proofs.Appending.{torn_end, closes, opens_behind, closed_behind, written_behind, keeps_log, IsAppend, gains_record, appends, grown_one, fewer_rest, slot_end, no_settings}
use Rattle.record_log.specs.Appended.{KeepsLog, Appends}
use Rattle.record_log.specs.LogOf.{EndsWith}
use Rattle.record_log.specs.declared.log.Log.{Log}
use Rattle.record_log.proofs.log.Log.append.Goals as goal

-- the gate was begun
begun : {D : Type 0} {images : Images DiskFile D} {old mid : D} (log : Log) → EachLeft images old (EndsWith log) → Passes images (AtFile log.slot.file (Torn log.end 1)) old mid → Passes images (AtFile log.slot.file (StaysClosed log.end)) old mid
begun log stands torn =
    passes_by torn (λ x y left at. at_file_weaker at (torn_end log.end (x log.slot.file) (y log.slot.file) (stands.each x left).ends))

-- the gate is there, and the rest was begun
followed : {D : Type 0} {images : Images DiskFile D} {old mid new : D} (log : Log) (payload body : List ℕ) → IsAppend log payload body → EachLeft images old (EndsWith log) → Passes images (AtFile log.slot.file (Torn log.end 1)) old mid → LeavesChanged images (AtFile log.slot.file (Holds log.end (0 ∷ []))) old mid → Passes images (AtFile log.slot.file (Opens log.end body)) mid new → Passes images (Appends log payload) old new
followed log payload body terms stands torn held opens =
    let file = log.slot.file in
    passes_by
    (passes_on (passes_by (begun log stands torn) (λ x y left at. at_file_weaker at (closes log.end body (x file) (y file)))) held opens
    (λ x y at. at)
    (λ x y z left one two. at_file_then one two (opens_behind log.end body (x file) (y file) (z file) (stands.each x left).ends)))
    (λ x y left at. appends log payload body x y terms (stands.each x left) at)

kept : {D : Type 0} {images : Images DiskFile D} {old mid new : D} (log : Log) → EachLeft images old (EndsWith log) → Passes images (AtFile log.slot.file (Torn log.end 1)) old mid → LeavesChanged images (AtFile log.slot.file (Holds log.end (0 ∷ []))) old mid → Passes images (AtFile log.slot.file (StaysClosed log.end)) mid new → Passes images (KeepsLog log) old new
kept log stands torn held closed =
    let file = log.slot.file in
    passes_by
    (passes_on (begun log stands torn) held closed
    (λ x y at. at)
    (λ x y z left one two. at_file_then one two (closed_behind log.end (x file) (y file) (z file) (stands.each x left).ends)))
    (λ x y left at. keeps_log log x y (stands.each x left) at)

pub write_synced-requires-clause-ends : goal.write_synced-requires-clause-ends
write_synced-requires-clause-ends g c = omega (arith, c.requires.ends, slot_end c.args.self.slot.file c.requires.file)

pub returns-in_err-write_synced-clause-crash : goal.returns-in_err-write_synced-clause-crash
returns-in_err-write_synced-clause-crash g c =
    passes_by (begun c.args.self c.requires.stands c.write_synced.ensures.crash)
    (λ x y left at. record { others = at.others; choice = inl (keeps_log c.args.self x y (c.requires.stands.each x left) at) })

pub returns-in_err-write_synced-clause-early : goal.returns-in_err-write_synced-clause-early
returns-in_err-write_synced-clause-early g c fewer =
    passes_by (begun c.args.self c.requires.stands c.write_synced.ensures.crash) (λ x y left at. keeps_log c.args.self x y (c.requires.stands.each x left) at)

pub write-requires-clause-ends : goal.write-requires-clause-ends
write-requires-clause-ends g c =
    let long : length c.deref.result.now ≡ length c.args.payload.items + 16 = ap length (c.deref.ensures.value ∙ c.in_ok-body.ensures) ∙ length-frame_body c.in_ok-sequence.sequence c.args.payload.items in
    omega (arith, c.requires.ends, slot_end c.args.self.slot.file c.requires.file)

pub returns-in_err-write-clause-crash : goal.returns-in_err-write-clause-crash
returns-in_err-write-clause-crash g c =
    followed c.args.self c.args.payload.items c.deref.result.now (record { body_is = c.deref.ensures.value ∙ c.in_ok-body.ensures ∙ ap (λ n. frame_body n c.args.payload.items) c.in_ok-sequence.ensures.ok.0; in_range = omega (arith, c.in_ok-sequence.ensures.ok.0, c.in_ok-sequence.ensures.ok.1); within = c.requires.ends }) c.requires.stands c.write_synced.ensures.crash c.in_ok-write_synced.ensures.written c.write.ensures.crash

pub returns-in_err-write-clause-early : goal.returns-in_err-write-clause-early
returns-in_err-write-clause-early g c fewer =
    kept c.args.self c.requires.stands c.write_synced.ensures.crash c.in_ok-write_synced.ensures.written (c.write.ensures.early (fewer_rest 2 2 _ _ _ c.in_ok-write_synced.ensures.done fewer))

pub returns-in_err-write-clause-done : goal.returns-in_err-write-clause-done
returns-in_err-write-clause-done g c =
    let some = c.in_err-write.ensures.done in
    done_err c.from_residual-in_err-write.result 6 (2 + some.0) _ _ c.from_residual-in_err-write.ensures.0 (omega (arith, some.1)) (done_more_then 2 some.0 _ _ _ c.in_ok-write_synced.ensures.done some.2)

pub returns-in_err-write-clause-counted : goal.returns-in_err-write-clause-counted
returns-in_err-write-clause-counted g c =
    let long : length c.deref.result.now ≡ length c.args.payload.items + 16 = ap length (c.deref.ensures.value ∙ c.in_ok-body.ensures) ∙ length-frame_body c.in_ok-sequence.sequence c.args.payload.items in
    written_halves c.from_residual-in_err-write.result c.args.self.slot.file c.args.self.slot.file (length c.deref.result.now) (length c.args.payload.items + 18) _ _ _
    c.from_residual-in_err-write.ensures.0 refl (omega arith) c.write_synced.ensures.counted c.in_err-write.ensures.counted

pub returns-clause-crash : goal.returns-clause-crash
returns-clause-crash g c =
    followed c.args.self c.args.payload.items c.deref.result.now (record { body_is = c.deref.ensures.value ∙ c.in_ok-body.ensures ∙ ap (λ n. frame_body n c.args.payload.items) c.in_ok-sequence.ensures.ok.0; in_range = omega (arith, c.in_ok-sequence.ensures.ok.0, c.in_ok-sequence.ensures.ok.1); within = c.requires.ends }) c.requires.stands c.write_synced.ensures.crash c.in_ok-write_synced.ensures.written c.write.ensures.crash

pub returns-clause-appended : goal.returns-clause-appended
returns-clause-appended g c =
    let log = c.args.self in
    let file = log.slot.file in
    let terms : IsAppend log c.args.payload.items c.deref.result.now = record { body_is = c.deref.ensures.value ∙ c.in_ok-body.ensures ∙ ap (λ n. frame_body n c.args.payload.items) c.in_ok-sequence.ensures.ok.0; in_range = omega (arith, c.in_ok-sequence.ensures.ok.0, c.in_ok-sequence.ensures.ok.1); within = c.requires.ends } in
    record {
      each = λ image left.
          let two = c.in_ok-write.ensures.opened.each image left in
          let one = c.in_ok-write_synced.ensures.written.each two.0 two.1 in
          let stands = c.requires.stands.each one.0 one.1 in (
            one.0,
            one.1,
            gains_record log c.args.payload.items c.deref.result.now one.0 image terms stands
                (at_file_then one.2 two.2 (written_behind log.end c.deref.result.now (one.0 file) (two.0 file) (image file) stands.ends)),
          );
    }

pub returns-clause-early : goal.returns-clause-early
returns-clause-early g c fewer =
    kept c.args.self c.requires.stands c.write_synced.ensures.crash c.in_ok-write_synced.ensures.written (c.write.ensures.early (fewer_rest 2 2 _ _ _ c.in_ok-write_synced.ensures.done fewer))

pub returns-clause-one : goal.returns-clause-one
returns-clause-one g c one =
    let log = c.args.self in
    let file = log.slot.file in
    grown_one file (165 ∷ c.deref.result.now) (no_settings file c.requires.file)
    (leaves_on c.in_ok-write_synced.ensures.written c.in_ok-write.ensures.opened c.requires.stands
    (λ x y z stands first second. at_file_then first second (written_behind log.end c.deref.result.now (x file) (y file) (z file) stands.ends)))
    one

pub returns-clause-counted : goal.returns-clause-counted
returns-clause-counted g c =
    let long : length c.deref.result.now ≡ length c.args.payload.items + 16 = ap length (c.deref.ensures.value ∙ c.in_ok-body.ensures) ∙ length-frame_body c.in_ok-sequence.sequence c.args.payload.items in
    written_whole c.args.self.slot.file c.args.self.slot.file (length c.deref.result.now) (length c.args.payload.items + 18) _ _ _
    refl (omega arith) c.write_synced.ensures.counted c.in_ok-write.ensures.counted
