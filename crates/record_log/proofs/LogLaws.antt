-- An image has one log, and has one wherever a slot is chosen.
use Rattle.std.proofs.Common.{◌≡◌, ℕ, ◌+◌, ◌≤◌, List, [], length, drop, Some, refl, sym, ◌∙◌, ap, subst, arith, length-drop, inl, inr}
use Rattle.std.proofs.lemmas.List.{length-take-le, take_all, append-nil}
use Rattle.std.proofs.lemmas.List.Sums.{sum_by-cons}
use Rattle.std.specs.Prelude.{sum_by}
use Rattle.outside.specs.Image.{Image, AtFile, IsCut}
use Rattle.outside.specs.declared.disk.DiskFile.{DiskFile}
use Rattle.outside.specs.declared.disk.DiskFile.TheVariants.{SlotA, SlotB}
use Rattle.slot_store.proofs.Choices.{chosen_file, chosen_length, same_choice}
use Rattle.slot_store.proofs.Frames.{closed_by_end}
use Rattle.slot_store.specs.ChosenSlot.{chosen_slot}
use Rattle.slot_store.specs.Frame.{length_at, payload_at, last_number}
use Rattle.slot_store.specs.declared.slot.Slot.{Slot}
use Rattle.record_log.proofs.Determined.{one_walk, some_records}
use Rattle.record_log.proofs.Fronts.{SameBefore, open_frame, counts_open, stops_closed}
use Rattle.record_log.proofs.Logs.{chosen_open, log_on, chosen_room}
use Rattle.record_log.specs.LogOf.{HasLog, EndsWith, SomeLog, log_size}
use Rattle.record_log.specs.Records.{end_at, HasRecords, no_more, record_at}
use Rattle.record_log.specs.declared.log.Log.{Log}

pub record IsOneLog (log other : Log) (base other_base : List ℕ) (records others : List (List ℕ)) : Type 0 where
  pub log_is : other ≡ log
  pub base_is : other_base ≡ base
  pub records_are : others ≡ records

abbrev log_with : Slot → ℕ → ℕ → Log
log_with slot end sequence = record { slot = slot; end = end; sequence = sequence }

pub one_log : (image : Image DiskFile) (log other : Log) (base other_base : List ℕ) (records others : List (List ℕ)) → HasLog log base records image → HasLog other other_base others image → IsOneLog log other base other_base records others
one_log image log other base other_base records others has has_other =
    let one_slot : Some other.slot ≡ Some log.slot = sym has_other.slot ∙ has.slot in
    let slot : other.slot ≡ log.slot = cc in
    let content = image log.slot.file in
    let walked : HasRecords content (log.slot.length + 17) log.slot.sequence others other.end other.sequence = subst (λ (slot : Slot). HasRecords (image slot.file) (slot.length + 17) slot.sequence others other.end other.sequence) slot has_other.records_are in
    let same = one_walk others other.end other.sequence has.records_are walked in
    record {
      log_is = ap (λ slot. log_with slot other.end other.sequence) slot ∙ ap (λ end. log_with log.slot end other.sequence) same.end_is ∙ ap (λ last. log_with log.slot log.end last) same.last_is;
      base_is = sym has_other.base_is ∙ ap (λ (slot : Slot). payload_at 0 (image slot.file)) slot ∙ has.base_is;
      records_are = same.payloads_are;
    }

pub some_log : (image : Image DiskFile) (slot : Slot) → chosen_slot image ≡ Some slot → SomeLog slot image
some_log image slot chosen =
    let content = image slot.file in
    let some = some_records (length content) content (slot.length + 17) slot.sequence (omega arith) in
    record {
      log = record { slot = slot; end = some.end; sequence = some.last };
      base = payload_at 0 content;
      records = some.payloads;
      log_is = record { slot = chosen; base_is = refl; records_are = some.walked };
      slot_is = refl;
    }

-- ---- how long a log is

payload_long : (place : ℕ) (content : List ℕ) → end_at place content ≤ length content → length (payload_at place content) ≡ length_at place content
unfolding payload_at
payload_long place content whole =
    length-take-le (length_at place content) (drop (place + 17) content) (omega (arith, length-drop (place + 17) content))

-- where records end that begin at a place inside the file
pub record TakeRoom (content : List ℕ) (place : ℕ) (payloads : List (List ℕ)) (end : ℕ) : Type 0 where
  pub size : end ≡ place + sum_by (λ payload. length payload + 17) payloads
  pub within : end ≤ length content
  pub in_range : end ≤ last_number

pub take_room : {content : List ℕ} {place sequence : ℕ} {payloads : List (List ℕ)} {end last : ℕ} → HasRecords content place sequence payloads end last → place ≤ length content → place ≤ last_number → TakeRoom content place payloads end
take_room (no_more place sequence stops) within in_range = record { size = omega arith; within = within; in_range = in_range }
take_room {content} (record_at place sequence payloads end last counts behind) within in_range =
    let frame = open_frame place content (counts_open place sequence content counts) in
    let rest = take_room behind frame.whole frame.within in
    let long : length (payload_at place content) ≡ length_at place content = payload_long place content frame.whole in
    record {
      size = omega (arith, rest.size, long, sum_by-cons (λ (payload : List ℕ). length payload + 17) (payload_at place content) payloads);
      within = rest.within;
      in_range = rest.in_range;
    }

pub base_long : (image : Image DiskFile) (log : Log) (base : List ℕ) (records : List (List ℕ)) → HasLog log base records image → length base ≡ log.slot.length
base_long image log base records has =
    let content = image log.slot.file in
    let frame = open_frame 0 content (chosen_open image log.slot has.slot) in
    ap length (sym has.base_is) ∙ payload_long 0 content frame.whole ∙ sym (chosen_length image log.slot has.slot)

pub log_room : (image : Image DiskFile) (log : Log) (base : List ℕ) (records : List (List ℕ)) → HasLog log base records image → TakeRoom (image log.slot.file) (log.slot.length + 17) records log.end
log_room image log base records has =
    let room = chosen_room image log.slot has.slot in
    take_room has.records_are room.whole room.within

pub log_long : (image : Image DiskFile) (log : Log) (base : List ℕ) (records : List (List ℕ)) → HasLog log base records image → log.end ≡ log_size base records
log_long image log base records has =
    omega (arith, (log_room image log base records has).size, base_long image log base records has)

-- ---- what a log stands on

pub log_cut : (old new : Image DiskFile) (log : Log) (base : List ℕ) (records : List (List ℕ)) → HasLog log base records old → AtFile log.slot.file (IsCut log.end) old new → HasLog log base records new
log_cut old new log base records has at =
    let content = new log.slot.file in
    let room = log_room old log base records has in
    let long : length content ≡ log.end = ap length at.here ∙ length-take-le log.end (old log.slot.file) room.within in
    let same : SameBefore log.end (old log.slot.file) content = record { front = take_all log.end content (omega arith) ∙ at.here; reaches = omega arith } in
    let stop : HasRecords content log.end log.sequence [] log.end log.sequence = no_more log.end log.sequence (stops_closed log.end log.sequence content (closed_by_end log.end content (omega arith))) in
    rw (← append-nil records) (log_on log base records [] log.end log.sequence old new has at.others same stop)

pub log_cut_ends : (old new : Image DiskFile) (log : Log) (base : List ℕ) (records : List (List ℕ)) → HasLog log base records old → AtFile log.slot.file (IsCut log.end) old new → EndsWith log new
log_cut_ends old new log base records has at = record {
  base = base;
  records = records;
  log_is = log_cut old new log base records has at;
  ends = ap length at.here ∙ length-take-le log.end (old log.slot.file) (log_room old log base records has).within;
}

pub log_of_slots : (old new : Image DiskFile) (log : Log) (base : List ℕ) (records : List (List ℕ)) → new SlotA ≡ old SlotA → new SlotB ≡ old SlotB → HasLog log base records old → HasLog log base records new
log_of_slots old new log base records first second has =
    let file = log.slot.file in
    let same : new file ≡ old file = elim (chosen_file old log.slot has.slot) [ inl is_first ↦ rw is_first first | inr is_second ↦ rw is_second second ] in
    record {
      slot = same_choice old new first second ∙ has.slot;
      base_is = ap (λ bytes. payload_at 0 bytes) same ∙ has.base_is;
      records_are = subst (λ bytes. HasRecords bytes (log.slot.length + 17) log.slot.sequence records log.end log.sequence) (sym same) has.records_are;
    }
