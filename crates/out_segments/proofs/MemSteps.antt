-- What a call makes of the images of Parts in memory.
use Rattle.std.proofs.Common.{◌≡◌, ◌≢◌, ◌⊎◌, ℕ, ◌≤◌, List, ◌∷◌, length, true, Vec, Result, Ok, Err, OnOk, refl, sym, ◌∙◌, subst, inl, inr}
use Rattle.std.specs.declared.alloc.Global.{Global}
use Rattle.std.specs.declared.alloc.AllocError.{AllocError}
use Rattle.outside.specs.declared.fault.CallFault.{CallFault}
use Rattle.outside.specs.declared.fault.CallFault.TheVariants.{Failed, Memory}
use Rattle.outside.specs.Image.{Image, AtFile, Torn, Holds, MayCut, Same}
use Rattle.outside.specs.Crash.{Passes, IsDurable}
use Rattle.outside.proofs.Tearing.{torn_idle, at_file_idle}
use Rattle.out_segments.specs.declared.parts.PartFile.{PartFile}
use Rattle.out_segments.specs.declared.memory.MemParts.{MemParts}
use Rattle.out_segments.specs.declared.memory.log.Change.{Change}
use Rattle.out_segments.specs.declared.memory.log.Change.TheVariants.{Put, Write, Cut, Sync}
use Rattle.out_segments.specs.MemLog.{Log, calls_of}
use Rattle.out_segments.specs.MemImages.{shown, itself}
use Rattle.out_segments.specs.MemCount.{log_after}
use Rattle.out_segments.specs.MemParts.{history_of, seen_of, images_by, parts_images, next_fate, Calls, Writes, Puts}
use Rattle.out_segments.specs.MemLaws.{leaves_content}
use Rattle.out_segments.proofs.MemFiles.{is_same-refl}
use Rattle.out_segments.proofs.CrashCalls.{Changes, made, replaced, leaves_replaced, changes_none, changes_idle, write_changes, cut_changes, sync_changes, put_changes, write_shown, write_holds}

-- From Parts to Parts the images change so.
abbrev pub Moves : {F : Type 0} → (F → PartFile) → (Image F → Image F → Type 0) → MemParts → MemParts → Type 0
Moves {F} own change old new = Passes {F = F} {D = MemParts} (images_by own) change old new

pub moves_by : {F : Type 0} (own : F → PartFile) (change : Image F → Image F → Type 0) (old new : MemParts) (log : Log) → history_of new ≡ log → Changes own change (history_of old) log → Moves own change old new
moves_by own change old new log same changes =
    let P : Log → Type 0 = λ l. Changes own change (history_of old) l in
    let at : Changes own change (history_of old) (history_of new) = subst P (sym same) changes in
    record { later = at.later; now_left = at.now_left; since = at.since; keeps = at.keeps }

-- A call did what its fate wants, or nothing.
calls_log : (file : PartFile) (change : Change) (result : Result Unit CallFault) (old new : MemParts) → Calls file change result old new → (history_of new ≡ log_after (next_fate old) file change (history_of old)) ⊎ (history_of new ≡ history_of old)
calls_log file change (Ok _) old new calls = inl calls.1
calls_log file change (Err Failed) old new calls = inl calls.2
calls_log file change (Err Memory) old new calls = inr calls.0

-- nothing was done
pub same_moves : {F : Type 0} (own : F → PartFile) (old new : MemParts) → history_of new ≡ history_of old → Moves own Same old new
same_moves own old new same = moves_by own Same old new (history_of old) same (changes_none own (history_of old))

pub idle_moves : {F : Type 0} (own : F → PartFile) (file : F) (offset size : ℕ) (old new : MemParts) → history_of new ≡ history_of old → Moves own (AtFile file (Torn offset size)) old new
idle_moves own file offset size old new same = moves_by own (AtFile file (Torn offset size)) old new (history_of old) same (changes_idle own (history_of old) file (Torn offset size) (λ content. torn_idle offset size content))

-- Files that stand for Parts, each for another.
module _ {F : Type 0} (own : F → PartFile) (one : (file other : F) → own file ≡ own other → file ≡ other) where
  pub write_moves : (file : F) (offset : ℕ) (bytes : Vec ℕ Global) (given : List ℕ) (result : Result Unit CallFault) (old new : MemParts) → bytes.items ≡ given → Calls (own file) (Write offset bytes) result old new → Moves own (AtFile file (Torn offset (length given))) old new
  write_moves file offset bytes given result old new same calls = rw (← same) (elim (calls_log (own file) (Write offset bytes) result old new calls) [
    | inl did ↦ moves_by own (AtFile file (Torn offset (length bytes.items))) old new (log_after (next_fate old) (own file) (Write offset bytes) (history_of old)) did (write_changes own one (next_fate old) file offset bytes (history_of old))
    | inr none ↦ moves_by own (AtFile file (Torn offset (length bytes.items))) old new (history_of old) none (changes_idle own (history_of old) file (Torn offset (length bytes.items)) (λ content. torn_idle offset (length bytes.items) content))
  ])

  -- the same of a call that was given these bytes
  pub writes_moves : (file : F) (offset : ℕ) (given : List ℕ) (result : Result Unit CallFault) (old new : MemParts) → Writes (own file) offset given result old new → Moves own (AtFile file (Torn offset (length given))) old new
  writes_moves file offset given (Ok done) old new writes = write_moves file offset writes.0 given (Ok done) old new writes.1 writes.2
  writes_moves file offset given (Err Failed) old new writes = write_moves file offset writes.0 given (Err Failed) old new writes.1 writes.2
  writes_moves file offset given (Err Memory) old new writes = idle_moves own file offset (length given) old new writes.0

  pub cut_moves : (file : F) (size : ℕ) (result : Result Unit CallFault) (old new : MemParts) → Calls (own file) (Cut size) result old new → Moves own (AtFile file (MayCut size)) old new
  cut_moves file size result old new calls = elim (calls_log (own file) (Cut size) result old new calls) [
    | inl did ↦ moves_by own (AtFile file (MayCut size)) old new (log_after (next_fate old) (own file) (Cut size) (history_of old)) did (cut_changes own one (next_fate old) file size (history_of old))
    | inr none ↦ moves_by own (AtFile file (MayCut size)) old new (history_of old) none (changes_idle own (history_of old) file (MayCut size) (λ content. inl refl))
  ]

  pub sync_moves : (file : F) (result : Result Unit CallFault) (old new : MemParts) → Calls (own file) Sync result old new → Moves own Same old new
  sync_moves file result old new calls = elim (calls_log (own file) Sync result old new calls) [
    | inl did ↦ moves_by own Same old new (log_after (next_fate old) (own file) Sync (history_of old)) did (sync_changes own one (next_fate old) file (history_of old))
    | inr none ↦ moves_by own Same old new (history_of old) none (changes_none own (history_of old))
  ]

  pub put_moves : (file : F) (bytes : Vec ℕ Global) (given : List ℕ) (result : Result Unit AllocError) (old new : MemParts) → bytes.items ≡ given → OnOk result (history_of new ≡ made (own file) (Put bytes) true ∷ history_of old) → OnOk result (Moves own (AtFile file (λ _ new. new ≡ given)) old new)
  put_moves file bytes given (Ok _) old new same did = rw (← same) (moves_by own (AtFile file (λ _ new. new ≡ bytes.items)) old new (made (own file) (Put bytes) true ∷ history_of old) did (put_changes own one file bytes (history_of old)))
  put_moves file bytes given (Err _) old new same did = tt

  pub puts_moves : (file : F) (given : List ℕ) (old new : MemParts) → Puts (own file) given old new → Moves own (AtFile file (λ _ new. new ≡ given)) old new
  puts_moves file given old new puts = rw (← puts.1) (moves_by own (AtFile file (λ _ new. new ≡ puts.0.items)) old new (made (own file) (Put puts.0) true ∷ history_of old) puts.2 (put_changes own one file puts.0 (history_of old)))

-- ---- the Parts themselves

itself_one : (file other : PartFile) → itself file ≡ itself other → file ≡ other
itself_one file other same = same

pub part_write_moves : (file : PartFile) (offset : ℕ) (bytes : Vec ℕ Global) (given : List ℕ) (result : Result Unit CallFault) (old new : MemParts) → bytes.items ≡ given → Calls file (Write offset bytes) result old new → Moves itself (AtFile file (Torn offset (length given))) old new
part_write_moves = write_moves itself itself_one

pub part_cut_moves : (file : PartFile) (size : ℕ) (result : Result Unit CallFault) (old new : MemParts) → Calls file (Cut size) result old new → Moves itself (AtFile file (MayCut size)) old new
part_cut_moves = cut_moves itself itself_one

pub part_sync_moves : (file : PartFile) (result : Result Unit CallFault) (old new : MemParts) → Calls file Sync result old new → Moves itself Same old new
part_sync_moves = sync_moves itself itself_one

pub part_put_moves : (file : PartFile) (bytes : Vec ℕ Global) (given : List ℕ) (result : Result Unit AllocError) (old new : MemParts) → bytes.items ≡ given → OnOk result (history_of new ≡ made file (Put bytes) true ∷ history_of old) → OnOk result (Moves itself (AtFile file (λ _ new. new ≡ given)) old new)
part_put_moves = put_moves itself itself_one

pub write_begun : (file : PartFile) (offset : ℕ) (bytes : Vec ℕ Global) (given : List ℕ) (result : Result Unit CallFault) (old new : MemParts) → bytes.items ≡ given → Calls file (Write offset bytes) result old new → AtFile file (Torn offset (length given)) (seen_of old) (seen_of new)
write_begun file offset bytes given result old new same calls =
    let P : Log → Type 0 = λ log. AtFile file (Torn offset (length bytes.items)) (seen_of old) (shown itself log) in
    rw (← same) (elim (calls_log file (Write offset bytes) result old new calls) [
      | inl did ↦ subst P (sym did) (write_shown itself itself_one (next_fate old) file offset bytes (history_of old))
      | inr none ↦ subst P (sym none) (at_file_idle file (Torn offset (length bytes.items)) (seen_of old) (torn_idle offset (length bytes.items) (seen_of old file)))
    ])

pub write_written : (file : PartFile) (offset : ℕ) (bytes : Vec ℕ Global) (given : List ℕ) (result : Result Unit CallFault) (old new : MemParts) → bytes.items ≡ given → offset ≤ length (seen_of old file) → Calls file (Write offset bytes) result old new → OnOk result (AtFile file (Holds offset given) (seen_of old) (seen_of new))
write_written file offset bytes given (Ok _) old new same within calls =
    let P : Log → Type 0 = λ log. AtFile file (Holds offset bytes.items) (seen_of old) (shown itself log) in
    let did : history_of new ≡ made file (Write offset bytes) true ∷ history_of old = rw calls.0 at calls.1 in
    rw (← same) (subst P (sym did) (write_holds itself itself_one file offset bytes (history_of old) within))
write_written file offset bytes given (Err fault) old new same within calls = tt

-- a file stays durable while another is set
pub durable_kept : (old new : MemParts) (file other : PartFile) (bytes : List ℕ) → AtFile file (λ _ now. now ≡ bytes) (seen_of old) (seen_of new) → Moves itself (AtFile file (λ _ now. now ≡ bytes)) old new → other ≢ file → IsDurable parts_images other old → IsDurable parts_images other new
durable_kept old new file other bytes seen moves differs durable image left =
    let past = moves.now_left image left in
    past.2.others other differs ∙ durable past.0 past.1 ∙ sym (seen.others other differs)

-- The same is durable of a file that stands for another.
pub durable_of : {F : Type 0} (own : F → PartFile) (parts : MemParts) (file : F) → IsDurable parts_images (own file) parts → IsDurable (images_by own) file parts
durable_of own parts file durable image left =
    let log = history_of parts in
    let whole : Image PartFile = replaced itself (own file) (image file) (shown itself log) in
    let here : whole (own file) ≡ image file = rw (is_same-refl (own file)) refl in
    sym here ∙ durable whole (leaves_replaced itself itself_one (own file) log (image file) (shown itself log) (left file) (λ other _. leaves_content (calls_of other log)))

pub writes_by : (file : PartFile) (offset : ℕ) (bytes : Vec ℕ Global) (given : List ℕ) (result : Result Unit CallFault) (old new : MemParts) → bytes.items ≡ given → Calls file (Write offset bytes) result old new → Writes file offset given result old new
writes_by file offset bytes given (Ok _) old new same calls = (bytes, same, calls)
writes_by file offset bytes given (Err Failed) old new same calls = (bytes, same, calls)
writes_by file offset bytes given (Err Memory) old new same calls = calls

-- the log has that a file was set
pub puts_log : (file : PartFile) (bytes : Vec ℕ Global) (given : List ℕ) (result : Result Unit AllocError) (old new : Log) → bytes.items ≡ given → OnOk result (new ≡ made file (Put bytes) true ∷ old) → OnOk result ((set : Vec ℕ Global) × (set.items ≡ given) × (new ≡ made file (Put set) true ∷ old))
puts_log file bytes given (Ok _) old new same did = (bytes, same, did)
puts_log file bytes given (Err _) old new same did = tt
