-- What syncs and cuts leave of a disk.
use Rattle.std.proofs.Common.{◌≡◌, ◌≢◌, ℕ, ◌≤◌, length, take, Option, Some, None, refl, sym, ap, ◌∙◌, subst, inl, inr}
use Rattle.std.proofs.lemmas.List.{length-take-le}
use Rattle.std.specs.Prelude.{◌⊎◌}
use Rattle.checkpoint_journal.proofs.JournalLaws.{journal_cut, journal_of_slots}
use Rattle.checkpoint_journal.specs.JournalOf.{log_of, HasJournal}
use Rattle.checkpoint_journal.specs.Memory.{EndsWithMemory, HasMemory}
use Rattle.checkpoint_journal.specs.declared.journal.Journal.{Journal}
use Rattle.checkpoint_store.specs.declared.Checkpoint.{Checkpoint}
use Rattle.outside.specs.Crash.{Passes, IsDurable}
use Rattle.outside.specs.Image.{Image, AtFile, IsCut, MayCut, Same}
use Rattle.outside.specs.Images.{Images}
use Rattle.outside.specs.declared.disk.DiskFile.{DiskFile}
use Rattle.outside.specs.declared.disk.DiskFile.TheVariants.{Settings, Output, SlotA, SlotB}
use Rattle.poll_core.proofs.ImageLemmas.{no_journal}
use Rattle.poll_core.specs.Remembers.{IsLeftBy}
use Rattle.poll_core.specs.Reopens.{KeepsLogs, Reopens, TrimsSlots}
use Rattle.poll_core.specs.SessionParts.{checkpoint_of_session, journal_of_session, kept_of}
use Rattle.poll_core.specs.Settled.{IsSettled}
use Rattle.poll_core.specs.StandsOn.{StandsOn}
use Rattle.poll_core.specs.declared.session.Session.{Session}
use Rattle.record_log.proofs.LogLaws.{one_log, log_cut, log_of_slots}
use Rattle.record_log.specs.declared.log.Log.{Log}
use Rattle.slot_store.proofs.Choices.{chosen_file, same_choice}

-- ---- one file changes

-- either this file is the one, or not
which : (file other : DiskFile) → (other ≡ file) ⊎ (other ≢ file)
which Settings Settings = inl refl
which Settings Output = inr (λ same. cc)
which Settings SlotA = inr (λ same. cc)
which Settings SlotB = inr (λ same. cc)
which Output Settings = inr (λ same. cc)
which Output Output = inl refl
which Output SlotA = inr (λ same. cc)
which Output SlotB = inr (λ same. cc)
which SlotA Settings = inr (λ same. cc)
which SlotA Output = inr (λ same. cc)
which SlotA SlotA = inl refl
which SlotA SlotB = inr (λ same. cc)
which SlotB Settings = inr (λ same. cc)
which SlotB Output = inr (λ same. cc)
which SlotB SlotA = inr (λ same. cc)
which SlotB SlotB = inl refl

all_same : (file : DiskFile) (old new : Image DiskFile) → new file ≡ old file → ((other : DiskFile) → other ≢ file → new other ≡ old other) → (other : DiskFile) → new other ≡ old other
all_same file old new here others other = elim (which file other) [
  | inl same ↦ (let P : DiskFile → Type 0 = λ f. new f ≡ old f in subst P (sym same) here)
  | inr differs ↦ others other differs
]

-- ---- what a session remembers, in other images

pub memory_moved : (journal : Option Journal) (checkpoint : Checkpoint) (old new : Image DiskFile) → new SlotA ≡ old SlotA → new SlotB ≡ old SlotB → HasMemory journal checkpoint old → HasMemory journal checkpoint new
memory_moved None checkpoint old new first second memory = (same_choice old new first second ∙ memory.0, memory.1)
memory_moved (Some journal) checkpoint old new first second memory = journal_of_slots old new journal checkpoint first second memory

pub ends_moved : (journal : Option Journal) (checkpoint : Checkpoint) (old new : Image DiskFile) → new SlotA ≡ old SlotA → new SlotB ≡ old SlotB → EndsWithMemory journal checkpoint old → EndsWithMemory journal checkpoint new
ends_moved None checkpoint old new first second memory = (same_choice old new first second ∙ memory.0, memory.1)
ends_moved (Some journal) checkpoint old new first second memory =
    let same : new journal.slot.file ≡ old journal.slot.file = elim (chosen_file old journal.slot memory.journal_is.log_is.slot) [ inl is ↦ rw is first | inr is ↦ rw is second ] in
    record { journal_is = journal_of_slots old new journal checkpoint first second memory.journal_is; ends = ap length same ∙ memory.ends }

pub ends_goes_on : (journal : Option Journal) (checkpoint : Checkpoint) (image : Image DiskFile) → EndsWithMemory journal checkpoint image → HasMemory journal checkpoint image
ends_goes_on None checkpoint image memory = memory
ends_goes_on (Some journal) checkpoint image memory = memory.journal_is

-- ---- the slots

logs_of_slots : (old new : Image DiskFile) → new SlotA ≡ old SlotA → new SlotB ≡ old SlotB → KeepsLogs old new
logs_of_slots old new first second = record {
  no_slot = λ none. same_choice old new first second ∙ none;
  log_is = λ log base records has. log_of_slots old new log base records first second has;
}

logs_of_cut : (old new : Image DiskFile) (journal : Journal) (checkpoint : Checkpoint) → HasJournal journal checkpoint old → AtFile journal.slot.file (IsCut journal.end) old new → KeepsLogs old new
logs_of_cut old new journal checkpoint has at = record {
  no_slot = λ none. absurd (no_journal old journal checkpoint none has);
  log_is = λ log base records have.
      let one : log ≡ log_of journal = (one_log old (log_of journal) log has.base base has.records records has.log_is have).log_is in
      let here : AtFile log.slot.file (IsCut log.end) old new = subst (λ (l : Log). AtFile l.slot.file (IsCut l.end) old new) (sym one) at in
      log_cut old new log base records have here;
}

not_slot : (image : Image DiskFile) (journal : Journal) (checkpoint : Checkpoint) (file : DiskFile) → HasJournal journal checkpoint image → file ≢ SlotA → file ≢ SlotB → file ≢ journal.slot.file
not_slot image journal checkpoint file has not_first not_second same = elim (chosen_file image journal.slot has.log_is.slot) [ inl is ↦ not_first (same ∙ is) | inr is ↦ not_second (same ∙ is) ]

trims_cut : (old new : Image DiskFile) (journal : Journal) (checkpoint : Checkpoint) → HasJournal journal checkpoint old → AtFile journal.slot.file (MayCut journal.end) old new → TrimsSlots checkpoint.output_length old new
trims_cut old new journal checkpoint has at = record {
  settings = at.others Settings (not_slot old journal checkpoint Settings has (λ same. cc) (λ same. cc));
  output = at.others Output (not_slot old journal checkpoint Output has (λ same. cc) (λ same. cc));
  logs = elim at.here [
    | inl same ↦ (let all = all_same journal.slot.file old new same at.others in logs_of_slots old new (all SlotA) (all SlotB))
    | inr cut ↦ logs_of_cut old new journal checkpoint has (record { here = cut; others = at.others })
  ];
  keeps = (Some checkpoint, (journal, has), refl);
}

-- nothing stands behind no journal
trims_none : (image : Image DiskFile) (checkpoint : Checkpoint) → HasMemory None checkpoint image → TrimsSlots checkpoint.output_length image image
trims_none image checkpoint memory = record {
  settings = refl;
  output = refl;
  logs = logs_of_slots image image refl refl;
  keeps = (None, memory.0, memory.1.output);
}

pub trims_idle : (journal : Option Journal) (checkpoint : Checkpoint) (old new : Image DiskFile) → journal ≡ None → HasMemory journal checkpoint old → new ≡ old → TrimsSlots checkpoint.output_length old new
trims_idle journal checkpoint old new none memory same =
    let at_none : HasMemory None checkpoint old = subst (λ j. HasMemory j checkpoint old) none memory in
    let P : Image DiskFile → Type 0 = λ image. TrimsSlots checkpoint.output_length old image in
    subst P (sym same) (trims_none old checkpoint at_none)

pub trims_step : (journal : Option Journal) (some : Journal) (checkpoint : Checkpoint) (old new : Image DiskFile) → journal ≡ Some some → HasMemory journal checkpoint old → AtFile some.slot.file (MayCut some.end) old new → TrimsSlots checkpoint.output_length old new
trims_step journal some checkpoint old new is memory at =
    trims_cut old new some checkpoint (subst (λ j. HasMemory j checkpoint old) is memory) at

pub ends_step : (journal : Option Journal) (some : Journal) (checkpoint : Checkpoint) (old new : Image DiskFile) → journal ≡ Some some → HasMemory journal checkpoint old → AtFile some.slot.file (IsCut some.end) old new → EndsWithMemory journal checkpoint new
ends_step journal some checkpoint old new is memory at =
    subst (λ j. EndsWithMemory j checkpoint new) (sym is) (journal_cut old new some checkpoint (subst (λ j. HasMemory j checkpoint old) is memory) at)

-- ---- the output

pub reopens_none : (image : Image DiskFile) → Reopens image image
reopens_none image = record { settings = refl; logs = logs_of_slots image image refl refl; output = inl refl }

pub reopens_trimmed : (size : ℕ) (old new : Image DiskFile) → TrimsSlots size old new → Reopens old new
reopens_trimmed size old new trims = record { settings = trims.settings; logs = trims.logs; output = inl trims.output }

pub reopens_cut : (size : ℕ) (old mid new : Image DiskFile) → TrimsSlots size old mid → AtFile Output (MayCut size) mid new → Reopens old new
reopens_cut size old mid new trims at =
    let slots = logs_of_slots mid new (at.others SlotA (λ same. cc)) (at.others SlotB (λ same. cc)) in
    record {
      settings = at.others Settings (λ same. cc) ∙ trims.settings;
      logs = record {
        no_slot = λ none. slots.no_slot (trims.logs.no_slot none);
        log_is = λ log base records has. slots.log_is log base records (trims.logs.log_is log base records has);
      };
      output = elim at.here [
        | inl same ↦ inl (same ∙ trims.output)
        | inr cut ↦ inr (size, trims.keeps, cut ∙ ap (λ file. take size file) trims.output)
      ];
    }

-- ---- what a crash leaves

module _ {D : Type 0} {images : Images DiskFile D} where
  pub durable_still : (file : DiskFile) {mid new : D} → IsDurable images file mid → Passes images Same mid new → images.seen new ≡ images.seen mid → IsDurable images file new
  durable_still file {mid} {new} durable passes seen = λ image left.
      let past = passes.now_left image left in
      let P : Image DiskFile → Type 0 = λ i. i file ≡ images.seen mid file in
      subst P (sym past.2) (durable past.0 past.1) ∙ ap (λ (s : Image DiskFile). s file) (sym seen)

  pub settled_by : {disk : D} → IsDurable images SlotA disk → IsDurable images SlotB disk → IsDurable images Output disk → IsSettled images disk
  settled_by {disk} first second output = record { each = each }
    where
      each : (image : Image DiskFile) → images.may_leave disk image → (file : DiskFile) → file ≢ Settings → image file ≡ images.seen disk file
      each image left Settings not_settings = absurd (not_settings refl)
      each image left Output not_settings = output image left
      each image left SlotA not_settings = first image left
      each image left SlotB not_settings = second image left

  pub settled_still : {mid new : D} → IsSettled images mid → Passes images Same mid new → images.seen new ≡ images.seen mid → IsSettled images new
  settled_still {mid} {new} settled passes seen = record {
    each = λ image left file not_settings. durable_still file (λ other left_other. settled.each other left_other file not_settings) passes seen image left;
  }

  pub memory_left : (journal : Option Journal) (checkpoint : Checkpoint) {disk : D} → IsSettled images disk → (image : Image DiskFile) → images.may_leave disk image → HasMemory journal checkpoint (images.seen disk) → HasMemory journal checkpoint image
  memory_left journal checkpoint {disk} settled image left memory =
      memory_moved journal checkpoint (images.seen disk) image (settled.each image left SlotA (λ same. cc)) (settled.each image left SlotB (λ same. cc)) memory

  -- the output was cut to what is kept, and the slots were before
  pub stands_on : (session : Session) {disk : D} → IsSettled images disk
      → ((image : Image DiskFile) → images.may_leave disk image → IsLeftBy session (images.seen disk)) → StandsOn images session disk
  stands_on session {disk} settled left_by = record {
    one = record { same = λ one another left left_too file not_settings. settled.each one left file not_settings ∙ sym (settled.each another left_too file not_settings) };
    each = record {
      each = λ image left.
          let by = left_by image left in
          record {
            memory = ends_moved (journal_of_session session) (checkpoint_of_session session) (images.seen disk) image (settled.each image left SlotA (λ same. cc)) (settled.each image left SlotB (λ same. cc)) by.memory;
            output = ap length (settled.each image left Output (λ same. cc)) ∙ by.output;
          };
    };
  }

pub left_by_cut : (session : Session) (old new : Image DiskFile) → EndsWithMemory (journal_of_session session) (checkpoint_of_session session) old → kept_of session ≤ length (old Output) → AtFile Output (IsCut (kept_of session)) old new → IsLeftBy session new
left_by_cut session old new memory enough at = record {
  memory = ends_moved (journal_of_session session) (checkpoint_of_session session) old new (at.others SlotA (λ same. cc)) (at.others SlotB (λ same. cc)) memory;
  output = ap length at.here ∙ length-take-le (kept_of session) (old Output) enough;
}
