-- A new base, from the commit that writes it.
use Rattle.std.proofs.Common.{◌≡◌, ℕ, ◌+◌, List, length, Option, Some, None, refl, sym, ◌∙◌, ap, subst, inl, inr, arith}
use Rattle.std.specs.Prelude.{IfSome}
use Rattle.outside.specs.Image.{Image}
use Rattle.outside.specs.declared.disk.DiskFile.{DiskFile}
use Rattle.slot_store.proofs.Frames.{closed_by_end}
use Rattle.slot_store.proofs.Framed.{length-frame_body}
use Rattle.slot_store.specs.Committed.{Chooses, KeepsChoice, IsCommitted, Commits, next_slot}
use Rattle.slot_store.specs.Frame.{payload_at}
use Rattle.record_log.proofs.Fronts.{stops_closed}
use Rattle.record_log.proofs.Logs.{payload_of_chosen}
use Rattle.record_log.proofs.Walks.{last_no_less}
use Rattle.record_log.specs.Appended.{slot_before, StandsIn, KeepsOld, IsRewritten, Rewrites}
use Rattle.record_log.specs.Records.{HasRecords, no_more}
use Rattle.record_log.specs.declared.log.Log.{Log}

pub stands_chooses : (before : Option Log) (image : Image DiskFile) → StandsIn before image → Chooses (slot_before before) image
stands_chooses None image stands = stands
stands_chooses (Some log) image stands = (log.slot, stands.log_is.slot, record { same_file = refl; same_length = refl; no_greater = last_no_less stands.log_is.records_are })

pub keeps_old : (before : Option Log) (old new : Image DiskFile) → StandsIn before old → KeepsChoice old new → KeepsOld before old new
keeps_old None old new stands keeps = keeps.slot ∙ stands
keeps_old (Some log) old new stands keeps = λ base records has.
    let same : new log.slot.file ≡ old log.slot.file = subst (λ choice. IfSome choice (λ slot. new slot.file ≡ old slot.file)) has.slot keeps.file in
    record {
      slot = keeps.slot ∙ has.slot;
      base_is = ap (λ bytes. payload_at 0 bytes) same ∙ has.base_is;
      records_are = subst (λ bytes. HasRecords bytes (log.slot.length + 17) log.slot.sequence records log.end log.sequence) (sym same) has.records_are;
    }

pub is_rewritten : (before : Option Log) (payload : List ℕ) (image : Image DiskFile) → IsCommitted (slot_before before) payload image → IsRewritten before payload image
is_rewritten before payload image committed =
    let slot = next_slot (slot_before before) payload in
    let content = image slot.file in
    let long : length content ≡ length payload + 17 = omega (arith, ap length committed.file, length-frame_body slot.sequence payload) in
    record {
      log_is = record {
        slot = committed.slot;
        base_is = payload_of_chosen image slot payload committed.slot committed.payload_is;
        records_are = no_more (length payload + 17) slot.sequence (stops_closed (length payload + 17) slot.sequence content (closed_by_end (length payload + 17) content (omega arith)));
      };
      ends = long;
    }

pub rewrites : (before : Option Log) (payload : List ℕ) (old new : Image DiskFile) → StandsIn before old → Commits (slot_before before) payload old new → Rewrites before payload old new
rewrites before payload old new stands commits = record {
  others = commits.others;
  choice = elim commits.choice [ inl keeps ↦ inl (keeps_old before old new stands keeps) | inr committed ↦ inr (is_rewritten before payload new committed) ];
}
