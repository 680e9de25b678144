-- What a call on one file makes of the images.
use Rattle.std.proofs.Common.{◌≡◌, ◌≢◌, ◌⊎◌, ℕ, ◌≤◌, List, ◌∷◌, length, Bool, true, false, if◌then◌else◌, Vec, refl, sym, ap, subst, inl, inr, arith}
use Rattle.std.specs.declared.alloc.Global.{Global}
use Rattle.outside.specs.Image.{Image, AtFile, Torn, Holds, MayCut, Same}
use Rattle.outside.specs.Crash.{After, Passes}
use Rattle.outside.proofs.Passing.{passes_none, passes_weaker}
use Rattle.outside.proofs.Tearing.{torn_idle, at_file_idle, at_file_weaker}
use Rattle.mem_calls.specs.declared.fuse.Fate.{Fate}
use Rattle.mem_calls.specs.declared.fuse.Fate.TheVariants.{Passes as passes, Begins, Fails}
use Rattle.out_segments.specs.declared.parts.PartFile.{PartFile}
use Rattle.out_segments.specs.declared.memory.log.Change.{Change}
use Rattle.out_segments.specs.declared.memory.log.Change.TheVariants.{Put, Write, Cut, Sync}
use Rattle.out_segments.specs.declared.memory.log.Entry.{Entry}
use Rattle.out_segments.specs.MemLog.{Log, is_same, calls_of, changed, content, LeavesBy, Leaves}
use Rattle.out_segments.specs.MemImages.{shown, LeavesImage, log_images}
use Rattle.out_segments.specs.MemCount.{log_after}
use Rattle.out_segments.specs.MemLaws.{leaves_content}
use Rattle.out_segments.proofs.MemFiles.{is_same-refl, cases_file, calls_of-here, calls_of-other}
use Rattle.out_segments.proofs.CrashLeaves.{torn_over, holds_over}

-- From log to log the images change so.
abbrev pub Changes : {F : Type 0} → (F → PartFile) → (Image F → Image F → Type 0) → Log → Log → Type 0
Changes {F} own change old new = Passes {F = F} {D = Log} (log_images own) change old new

abbrev pub made : PartFile → Change → Bool → Entry
made file change taken = record { file = file; change = change; taken = taken }

-- what the newest entry leaves of its file
abbrev pub LeavesHere : PartFile → Change → Bool → Log → List ℕ → Type 0
LeavesHere file change taken log left = LeavesBy change taken (λ old. Leaves (calls_of file log) old) (content (calls_of file log)) left

-- an image with another content of one file
abbrev pub replaced : {F : Type 0} → (F → PartFile) → F → List ℕ → Image F → Image F
replaced own file old image other = if is_same (own file) (own other) then old else image other

torn_any : (offset : ℕ) (bytes : Vec ℕ Global) (old left : List ℕ) → ((left ≡ changed (Write offset bytes) old) ⊎ Torn offset (length bytes.items) old left) → Torn offset (length bytes.items) old left
torn_any offset bytes old left (inl went) = rw went (torn_over offset bytes.items old)
torn_any offset bytes old left (inr torn) = torn

pub changes_none : {F : Type 0} (own : F → PartFile) (log : Log) → Changes own Same log log
changes_none own log = passes_none log

pub changes_idle : {F : Type 0} (own : F → PartFile) (log : Log) (file : F) (change : List ℕ → List ℕ → Type 0) → ((content : List ℕ) → change content content) → Changes own (AtFile file change) log log
changes_idle {F} own log file change idle = passes_weaker (changes_none own log) (λ first second same. let P : Image F → Type 0 = λ image. AtFile file change first image in subst P (sym same) (at_file_idle file change first (idle (first file))))

-- Files that stand for Parts, each for another.
module _ {F : Type 0} (own : F → PartFile) (one : (file other : F) → own file ≡ own other → file ≡ other) where
  cases_own : (file other : F) → (file ≡ other) ⊎ ((file ≢ other) × (is_same (own file) (own other) ≡ false))
  cases_own file other = elim (cases_file (own file) (own other)) [
    | inl same ↦ inl (one file other same)
    | inr apart ↦ inr (λ e. apart.0 (ap own e), apart.1)
  ]

  leaves_here : (file : F) (change : Change) (taken : Bool) (log : Log) (image : Image F) → LeavesImage own (made (own file) change taken ∷ log) image → LeavesHere (own file) change taken log (image file)
  leaves_here file change taken log image left = rw (calls_of-here (made (own file) change taken) log) at (left file)

  leaves_other : (file other : F) (change : Change) (taken : Bool) (log : Log) (image : Image F) → LeavesImage own (made (own file) change taken ∷ log) image → other ≢ file → Leaves (calls_of (own other) log) (image other)
  leaves_other file other change taken log image left differs = rw (calls_of-other (made (own file) change taken) (own other) log (λ e. differs (one other file e))) at (left other)

  pub leaves_replaced : (file : F) (log : Log) (old : List ℕ) (image : Image F) → Leaves (calls_of (own file) log) old → ((other : F) → other ≢ file → Leaves (calls_of (own other) log) (image other)) → LeavesImage own log (replaced own file old image)
  leaves_replaced file log old image here others other = elim (cases_own file other) [
    | inl same ↦ (let P : F → Type 0 = λ o. Leaves (calls_of (own o) log) (replaced own file old image o) in subst P same (rw (is_same-refl (own file)) here))
    | inr apart ↦ rw apart.1 (others other (λ e. apart.0 (sym e)))
  ]

  replaced_at : (file : F) (change : List ℕ → List ℕ → Type 0) (old : List ℕ) (image : Image F) → change old (image file) → AtFile file change (replaced own file old image) image
  replaced_at file change old image step = record {
    here = rw (is_same-refl (own file)) step;
    others = λ other differs. elim (cases_own file other) [
      | inl same ↦ absurd (differs (sym same))
      | inr apart ↦ rw apart.1 refl
    ];
  }

  entry_back : (file : F) (call : Change) (taken : Bool) (log : Log) (change : List ℕ → List ℕ → Type 0) → ((left : List ℕ) → LeavesHere (own file) call taken log left → (old : List ℕ) × Leaves (calls_of (own file) log) old × change old left) → (image : Image F) → LeavesImage own (made (own file) call taken ∷ log) image → After (λ old. LeavesImage own log old) (AtFile file change) image
  entry_back file call taken log change back image left =
      let past = back (image file) (leaves_here file call taken log image left) in
      (replaced own file past.0 image, leaves_replaced file log past.0 image past.1 (λ other differs. leaves_other file other call taken log image left differs), replaced_at file change past.0 image past.2)

  changes_entry : (file : F) (call : Change) (taken : Bool) (log : Log) (change : List ℕ → List ℕ → Type 0) → ((left : List ℕ) → LeavesHere (own file) call taken log left → (old : List ℕ) × Leaves (calls_of (own file) log) old × change old left) → Changes own (AtFile file change) log (made (own file) call taken ∷ log)
  changes_entry file call taken log change back = record {
    later = omega arith;
    now_left = entry_back file call taken log change back;
    since = λ from image early left. elim left [ inl now ↦ inr (entry_back file call taken log change back image now.1) | inr past ↦ inl past ];
    keeps = λ from image early left. inr left;
  }

  same_back : (file : F) (call : Change) (taken : Bool) (log : Log) → ((left : List ℕ) → LeavesHere (own file) call taken log left → Leaves (calls_of (own file) log) left) → (image : Image F) → LeavesImage own (made (own file) call taken ∷ log) image → After (λ old. LeavesImage own log old) Same image
  same_back file call taken log back image left = (
    image,
    λ other. elim (cases_own file other) [
      | inl same ↦ (let P : F → Type 0 = λ o. Leaves (calls_of (own o) log) (image o) in subst P same (back (image file) (leaves_here file call taken log image left)))
      | inr apart ↦ leaves_other file other call taken log image left (λ e. apart.0 (sym e))
    ],
    refl,
  )

  changes_same : (file : F) (call : Change) (taken : Bool) (log : Log) → ((left : List ℕ) → LeavesHere (own file) call taken log left → Leaves (calls_of (own file) log) left) → Changes own Same log (made (own file) call taken ∷ log)
  changes_same file call taken log back = record {
    later = omega arith;
    now_left = same_back file call taken log back;
    since = λ from image early left. elim left [ inl now ↦ inr (same_back file call taken log back image now.1) | inr past ↦ inl past ];
    keeps = λ from image early left. inr left;
  }

  pub write_changes : (fate : Fate) (file : F) (offset : ℕ) (bytes : Vec ℕ Global) (log : Log) → Changes own (AtFile file (Torn offset (length bytes.items))) log (log_after fate (own file) (Write offset bytes) log)
  write_changes passes file offset bytes log = changes_entry file (Write offset bytes) true log (Torn offset (length bytes.items)) (λ left by. (by.0, by.1, torn_any offset bytes by.0 left by.2))
  write_changes Begins file offset bytes log = changes_entry file (Write offset bytes) false log (Torn offset (length bytes.items)) (λ left by. (by.0, by.1, torn_any offset bytes by.0 left by.2))
  write_changes Fails file offset bytes log = changes_idle own log file (Torn offset (length bytes.items)) (λ content. torn_idle offset (length bytes.items) content)

  pub cut_changes : (fate : Fate) (file : F) (size : ℕ) (log : Log) → Changes own (AtFile file (MayCut size)) log (log_after fate (own file) (Cut size) log)
  cut_changes passes file size log = changes_entry file (Cut size) true log (MayCut size) (λ left by. by)
  cut_changes Begins file size log = changes_entry file (Cut size) false log (MayCut size) (λ left by. by)
  cut_changes Fails file size log = changes_idle own log file (MayCut size) (λ content. inl refl)

  pub sync_changes : (fate : Fate) (file : F) (log : Log) → Changes own Same log (log_after fate (own file) Sync log)
  sync_changes passes file log = changes_same file Sync true log (λ left by. rw by (leaves_content (calls_of (own file) log)))
  sync_changes Begins file log = changes_same file Sync false log (λ left by. by)
  sync_changes Fails file log = changes_none own log

  pub put_changes : (file : F) (bytes : Vec ℕ Global) (log : Log) → Changes own (AtFile file (λ _ new. new ≡ bytes.items)) log (made (own file) (Put bytes) true ∷ log)
  put_changes file bytes log = changes_entry file (Put bytes) true log (λ _ new. new ≡ bytes.items) (λ left by. (content (calls_of (own file) log), leaves_content (calls_of (own file) log), by))

  -- what reads give after an entry
  shown_entry : (file : F) (call : Change) (taken : Bool) (log : Log) → AtFile file (λ old new. new ≡ (if taken then changed call old else old)) (shown own log) (shown own (made (own file) call taken ∷ log))
  shown_entry file call taken log = record {
    here = ap content (calls_of-here (made (own file) call taken) log);
    others = λ other differs. ap content (calls_of-other (made (own file) call taken) (own other) log (λ e. differs (one other file e)));
  }

  -- what reads give after a write, however it ended
  pub write_shown : (fate : Fate) (file : F) (offset : ℕ) (bytes : Vec ℕ Global) (log : Log) → AtFile file (Torn offset (length bytes.items)) (shown own log) (shown own (log_after fate (own file) (Write offset bytes) log))
  write_shown passes file offset bytes log = at_file_weaker (shown_entry file (Write offset bytes) true log) (λ same. rw same (torn_over offset bytes.items (shown own log file)))
  write_shown Begins file offset bytes log = at_file_weaker (shown_entry file (Write offset bytes) false log) (λ same. rw same (torn_idle offset (length bytes.items) (shown own log file)))
  write_shown Fails file offset bytes log = at_file_idle file (Torn offset (length bytes.items)) (shown own log) (torn_idle offset (length bytes.items) (shown own log file))

  pub write_holds : (file : F) (offset : ℕ) (bytes : Vec ℕ Global) (log : Log) → offset ≤ length (shown own log file) → AtFile file (Holds offset bytes.items) (shown own log) (shown own (made (own file) (Write offset bytes) true ∷ log))
  write_holds file offset bytes log within = at_file_weaker (shown_entry file (Write offset bytes) true log) (λ same. rw same (holds_over offset bytes.items (shown own log file) within))
