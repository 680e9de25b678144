-- One more record, from the calls that write it.
use Rattle.std.proofs.Common.{◌≡◌, ℕ, ◌+◌, ◌<◌, ◌≤◌, List, [], ◌++◌, ◌∷◌, length, take, Option, Some, None, refl, sym, ◌∙◌, ap, subst, inl, inr, arith}
use Rattle.std.proofs.lemmas.List.{take_at, take_all, length-take, append-nil}
use Rattle.outside.proofs.Tearing.{keeps_front_torn, keeps_front_take, holds_at_end}
use Rattle.outside.specs.Image.{Image, AtFile, Torn, Holds}
use Rattle.outside.specs.Images.{Images}
use Rattle.outside.specs.declared.disk.DiskFile.{DiskFile}
use Rattle.outside.specs.declared.disk.DiskFile.TheVariants.{Settings, Output, SlotA, SlotB}
use Rattle.slot_store.proofs.Choices.{decide_file}
use Rattle.slot_store.proofs.Frames.{closed_by_end}
use Rattle.outside.specs.DiskCalls.{last_end}
use Rattle.slot_store.specs.ChosenSlot.{IsSlotFile}
use Rattle.slot_store.specs.Committed.{LeavesOne}
use Rattle.slot_store.specs.Counted.{DoneMore, DoneFewer}
use Rattle.slot_store.specs.Frame.{frame_body, Opens, StaysClosed, last_number}
use Rattle.slot_store.specs.Synced.{LeavesChanged}
use Rattle.record_log.proofs.Fronts.{SameBefore, IsFrameAt, frame_behind, stops_closed, counts_when}
use Rattle.record_log.proofs.Logs.{log_on}
use Rattle.record_log.specs.Appended.{KeepsLog, GainsRecord, Appends}
use Rattle.record_log.specs.LogOf.{EndsWith}
use Rattle.record_log.specs.Records.{HasRecords, no_more, record_at}
use Rattle.record_log.specs.declared.log.Log.{Log}

-- A gate alone behind the end of the file is in no frame.
pub torn_end : (place : ℕ) (old new : List ℕ) → length old ≡ place → Torn place 1 old new → StaysClosed place old new
torn_end place old new ends torn = record {
  front = keeps_front_take place old new (omega arith) (keeps_front_torn place place 1 old new (omega arith) torn);
  closed = closed_by_end place new (omega (arith, torn.no_longer));
}

pub closes : (place : ℕ) (body old new : List ℕ) → StaysClosed place old new → Opens place body old new
closes place body old new stays = record { front = stays.front; rest = inl stays.closed }

-- the closed gate behind the end
pub gate_behind_end : (place : ℕ) (old new : List ℕ) → length old ≡ place → Holds place (0 ∷ []) old new → new ≡ old ++ 0 ∷ []
gate_behind_end place old new ends holds = holds_at_end place (0 ∷ []) old new (sym ends) holds

front_kept : (place : ℕ) (old new : List ℕ) → length old ≡ place → new ≡ old ++ 0 ∷ [] → take place new ≡ take place old
front_kept place old new ends written = ap (λ bytes. take place bytes) written ∙ take_at old (0 ∷ []) place ends ∙ sym (take_all place old (omega arith))

-- what is written behind the gate, seen from before the gate
pub opens_behind : (place : ℕ) (body old mid new : List ℕ) → length old ≡ place → Holds place (0 ∷ []) old mid → Opens place body mid new → Opens place body old new
opens_behind place body old mid new ends holds opens =
    let front : take place mid ≡ take place old = front_kept place old mid ends (gate_behind_end place old mid ends holds) in
    record {
      front = opens.front ∙ front;
      rest = elim opens.rest [ inl closed ↦ inl closed | inr written ↦ inr (written ∙ ap (λ bytes. bytes ++ 165 ∷ body) front) ];
    }

pub closed_behind : (place : ℕ) (old mid new : List ℕ) → length old ≡ place → Holds place (0 ∷ []) old mid → StaysClosed place mid new → StaysClosed place old new
closed_behind place old mid new ends holds stays = record {
  front = stays.front ∙ front_kept place old mid ends (gate_behind_end place old mid ends holds);
  closed = stays.closed;
}

pub written_behind : (place : ℕ) (body old mid new : List ℕ) → length old ≡ place → Holds place (0 ∷ []) old mid → new ≡ take place mid ++ 165 ∷ body → new ≡ old ++ 165 ∷ body
written_behind place body old mid new ends holds written =
    written ∙ ap (λ front. front ++ 165 ∷ body) (front_kept place old mid ends (gate_behind_end place old mid ends holds) ∙ take_all place old (omega arith))

-- a front that is equal and not shorter
same_before : (place : ℕ) (old new : List ℕ) → length old ≡ place → take place new ≡ take place old → SameBefore place old new
same_before place old new ends front = record {
  front = front;
  reaches = omega (arith, ap length front, length-take place new, length-take place old);
}

pub keeps_log : (log : Log) (old new : Image DiskFile) → EndsWith log old → AtFile log.slot.file (StaysClosed log.end) old new → KeepsLog log old new
keeps_log log old new stands at base records has =
    let file = log.slot.file in
    rw (← append-nil records) (log_on log base records [] log.end log.sequence old new has at.others (same_before log.end (old file) (new file) stands.ends at.here.front) (no_more log.end log.sequence (stops_closed log.end log.sequence (new file) at.here.closed)))

-- one record, with which the file ends
one_more : (place sequence : ℕ) (payload content : List ℕ) → IsFrameAt place (sequence + 1) payload content → HasRecords content place sequence (payload ∷ []) (place + 17 + length payload) (sequence + 1)
one_more place sequence payload content made =
    let stop : HasRecords content (place + 17 + length payload) (sequence + 1) [] (place + 17 + length payload) (sequence + 1) = no_more (place + 17 + length payload) (sequence + 1) (stops_closed (place + 17 + length payload) (sequence + 1) content (closed_by_end (place + 17 + length payload) content (omega (arith, made.ends)))) in
    subst (λ bytes. HasRecords content place sequence (bytes ∷ []) (place + 17 + length payload) (sequence + 1)) made.payload_is
    (record_at place sequence [] (place + 17 + length payload) (sequence + 1) (counts_when place sequence content made.opened made.sequence_is)
    (subst (λ end. HasRecords content end (sequence + 1) [] (place + 17 + length payload) (sequence + 1)) (sym made.end_is) stop))

-- the terms of an append
pub record IsAppend (log : Log) (payload body : List ℕ) : Type 0 where
  pub body_is : body ≡ frame_body (log.sequence + 1) payload
  pub in_range : log.sequence + 1 ≤ last_number
  pub within : log.end + 17 + length payload ≤ last_number

pub gains_record : (log : Log) (payload body : List ℕ) (old new : Image DiskFile) → IsAppend log payload body → EndsWith log old → AtFile log.slot.file (λ before after. after ≡ before ++ 165 ∷ body) old new → GainsRecord log payload old new
gains_record log payload body old new terms stands at =
    let file = log.slot.file in
    let here : new file ≡ old file ++ 165 ∷ frame_body (log.sequence + 1) payload = rw (← terms.body_is) at.here in
    let made = frame_behind log.end (log.sequence + 1) (old file) payload (new file) stands.ends here terms.in_range terms.within in
    let front : take log.end (new file) ≡ take log.end (old file) = ap (λ bytes. take log.end bytes) here ∙ take_at (old file) (165 ∷ frame_body (log.sequence + 1) payload) log.end stands.ends ∙ sym (take_all log.end (old file) (omega (arith, stands.ends))) in
    record {
      log_is = λ base records has. log_on log base records (payload ∷ []) (log.end + 17 + length payload) (log.sequence + 1) old new has at.others (same_before log.end (old file) (new file) stands.ends front) (one_more log.end log.sequence payload (new file) made);
      ends = made.ends;
    }

pub appends : (log : Log) (payload body : List ℕ) (old new : Image DiskFile) → IsAppend log payload body → EndsWith log old → AtFile log.slot.file (Opens log.end body) old new → Appends log payload old new
appends log payload body old new terms stands at =
    let file = log.slot.file in
    record {
      others = at.others;
      choice = elim at.here.rest [
        | inl closed ↦ inl (keeps_log log old new stands (record { here = record { front = at.here.front; closed = closed }; others = at.others }))
        | inr written ↦ inr (gains_record log payload body old new terms stands (record { here = written ∙ ap (λ front. front ++ 165 ∷ body) (take_all log.end (old file) (omega (arith, stands.ends))); others = at.others }))
      ];
    }

-- one image, where one file grew by the same bytes and each other stands
pub grown_one : {D : Type 0} {images : Images DiskFile D} {old new : D} (file : DiskFile) (more : List ℕ) → (file ≡ Settings → ⊥) → LeavesChanged images (AtFile file (λ before after. after ≡ before ++ more)) old new → LeavesOne images old → LeavesOne images new
grown_one file more no_settings leaves one = record {
  same = λ first second left_first left_second other counts.
      let before = leaves.each first left_first in
      let past = leaves.each second left_second in
      elim (decide_file other file) [
        | inl is_file ↦ rw is_file (before.2.here ∙ ap (λ bytes. bytes ++ more) (one.same before.0 past.0 before.1 past.1 file no_settings) ∙ sym past.2.here)
        | inr differs ↦ before.2.others other differs ∙ one.same before.0 past.0 before.1 past.1 other counts ∙ sym (past.2.others other differs)
      ];
}

-- of so many calls some succeeded before
pub fewer_rest : (first rest : ℕ) (start mid end : Option ℕ) → DoneMore first start mid → DoneFewer (first + rest) start end → DoneFewer rest mid end
fewer_rest first rest None mid end more fewer = absurd fewer
fewer_rest first rest (Some n) mid None more fewer = absurd fewer
fewer_rest first rest (Some n) mid (Some m) more fewer =
    let P : Option ℕ → Type 0 = λ count. DoneFewer rest count (Some m) in
    let below : m < n + first + rest = omega (arith, fewer) in
    subst P (sym more) below

pub slot_end : (file : DiskFile) → IsSlotFile file → last_end file ≡ last_number
slot_end Settings never = absurd never
slot_end Output never = absurd never
slot_end SlotA is_slot = refl
slot_end SlotB is_slot = refl

pub no_settings : (file : DiskFile) → IsSlotFile file → file ≡ Settings → ⊥
no_settings file is_slot same = let P : DiskFile → Type 0 = λ one. IsSlotFile one in subst P same is_slot
