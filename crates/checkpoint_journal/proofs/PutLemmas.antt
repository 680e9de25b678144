-- What a change that is put behind, and a checkpoint that is put beside, make of a disk.
use Rattle.std.proofs.Common.{◌≡◌, ◌≢◌, ℕ, ◌+◌, ◌^◌, ◌≤◌, Bool, true, false, List, [], ◌∷◌, length, Option, Some, None, Result, Ok, Err, OnOk, refl, sym, ap, ◌∙◌, subst, inl, inr, arith}
use Rattle.std.proofs.lemmas.List.Sums.{sum_by-cons}
use Rattle.std.proofs.lemmas.Option.{same_Some}
use Rattle.std.specs.Prelude.{IfOk, sum_by}
use Rattle.checkpoint_store.proofs.CostLemmas.{change_long, checkpoint_long}
use Rattle.checkpoint_store.proofs.ShortLemmas.{checkpoint_short}
use Rattle.checkpoint_journal.specs.Costs.{WrittenAtMost}
use Rattle.checkpoint_journal.specs.Due.{IsDue}
use Rattle.checkpoint_journal.specs.JournalOf.{EndsWith}
use Rattle.checkpoint_journal.specs.Memory.{EndsWithMemory, KeepsMemory}
use Rattle.checkpoint_journal.specs.Next.{AwaitsNext, IsNext, change_to, sequence_after}
use Rattle.checkpoint_journal.specs.Puts.{KeepsFiles, Puts}
use Rattle.checkpoint_journal.specs.Short.{IsShort}
use Rattle.checkpoint_journal.specs.Written.{Awaits, appended, GainsChange, Appends, written_file, started, StandsIn, KeepsOld, Rewrites}
use Rattle.checkpoint_journal.specs.declared.journal.Journal.{Journal}
use Rattle.checkpoint_store.specs.Limits.{newest}
use Rattle.checkpoint_store.specs.Parts.{flagged}
use Rattle.checkpoint_store.specs.Rules.{IsCheckpoint}
use Rattle.checkpoint_store.specs.Spelling.{row_spelling, change_spelling}
use Rattle.checkpoint_store.specs.declared.Change.{Change}
use Rattle.checkpoint_store.specs.declared.Checkpoint.{Checkpoint}
use Rattle.file_tracker.specs.declared.row.Row.{Row}
use Rattle.outside.proofs.Passing.{passes_by, passes_weaker}
use Rattle.outside.specs.Crash.{Passes}
use Rattle.outside.specs.DiskCalls.{written_after}
use Rattle.outside.specs.Image.{Image}
use Rattle.outside.specs.Images.{Images}
use Rattle.outside.specs.declared.disk.DiskFile.{DiskFile}
use Rattle.outside.specs.declared.disk.DiskFile.TheVariants.{Settings, Output, SlotA, SlotB}
use Rattle.slot_store.specs.ChosenSlot.{IsSlotFile}
use Rattle.slot_store.specs.Committed.{KeepsOthers, other_file}
use Rattle.slot_store.specs.Counted.{HasWritten}
use Rattle.slot_store.specs.Frame.{last_number}
use Rattle.slot_store.specs.Synced.{EachLeft, LeavesChanged}
use Rattle.slot_store.specs.declared.fault.CommitFault.{CommitFault}
use Rattle.slot_store.specs.declared.fault.CommitFault.TheVariants.{Worn}

-- ---- files

slot_not_settings : (file : DiskFile) → IsSlotFile file → Settings ≢ file
slot_not_settings Settings is same = is
slot_not_settings Output is same = is
slot_not_settings SlotA is same = cc
slot_not_settings SlotB is same = cc

slot_not_output : (file : DiskFile) → IsSlotFile file → Output ≢ file
slot_not_output Settings is same = is
slot_not_output Output is same = is
slot_not_output SlotA is same = cc
slot_not_output SlotB is same = cc

files_kept : (file : DiskFile) (old new : Image DiskFile) → IsSlotFile file → KeepsOthers file old new → KeepsFiles old new
files_kept file old new is others = record {
  settings = others Settings (slot_not_settings file is);
  output = others Output (slot_not_output file is);
}

other_is_slot : (file : DiskFile) → IsSlotFile (other_file file)
other_is_slot Settings = tt
other_is_slot Output = tt
other_is_slot SlotA = tt
other_is_slot SlotB = tt

written_is_slot : (journal : Option Journal) → IsSlotFile (written_file journal)
written_is_slot None = tt
written_is_slot (Some journal) = other_is_slot journal.slot.file

-- ---- a change behind

module _ (journal : Journal) (after : Checkpoint) (change : Change) where
  awaits : (image : Image DiskFile) → AwaitsNext (Some journal) after change image → Awaits journal change image
  awaits image awaited = record { checkpoint = awaited.before; stands = awaited.ends; fits = awaited.fits }

  gained : (old new : Image DiskFile) → AwaitsNext (Some journal) after change old → GainsChange journal change old new → EndsWith (appended journal change) after new
  gained old new awaited gains =
      subst (λ (c : Checkpoint). EndsWith (appended journal change) c new) (sym awaited.makes) (gains awaited.before awaited.ends.journal_is awaited.fits)

  put_of_append : (old new : Image DiskFile) → IsSlotFile journal.slot.file → AwaitsNext (Some journal) after change old → Appends journal change old new → Puts (Some journal) after old new
  put_of_append old new is awaited appends = record {
    files = files_kept journal.slot.file old new is appends.others;
    choice = elim appends.choice [
      | inl keeps ↦ inl keeps
      | inr gains ↦ inr (appended journal change, (gained old new awaited gains).journal_is, refl)
    ];
  }

  pub behind_next : IsShort journal → (IsDue (Some journal) after → ⊥) → IsNext (Some journal) after change (appended journal change)
  behind_next short not_due = record {
    short = record { file = short.file; base = short.base };
    sequence = refl;
    anew = λ due. absurd (not_due due);
    goes_on = λ own is _. ap (λ (j : Journal). appended j change) (same_Some journal own is);
  }

  module _ {D : Type 0} {images : Images DiskFile D} {old : D} (awaiting : EachLeft images old (AwaitsNext (Some journal) after change)) where
    pub each_awaits : EachLeft images old (Awaits journal change)
    each_awaits = record { each = λ image left. awaits image (awaiting.each image left) }

    pub behind_crash : IsSlotFile journal.slot.file → {new : D} → Passes images (Appends journal change) old new → Passes images (Puts (Some journal) after) old new
    behind_crash is passes = passes_by passes (λ first second left step. put_of_append first second is (awaiting.each first left) step)

    pub behind_put : {new : D} → LeavesChanged images (GainsChange journal change) old new → EachLeft images new (EndsWith (appended journal change) after)
    behind_put {new} leaves = record {
      each = λ image left.
          let past = leaves.each image left in
          gained past.0 image (awaiting.each past.0 past.1) past.2;
    }

-- ---- a change is no longer than the checkpoint that it makes

flagged_sum : (flags : List Bool) (rows : List Row) → sum_by (λ row. length (row_spelling newest row)) (flagged flags rows) ≤ sum_by (λ row. length (row_spelling newest row)) rows
flagged_sum [] rows = omega arith
flagged_sum (true ∷ flags) [] = omega arith
flagged_sum (false ∷ flags) [] = omega arith
flagged_sum (true ∷ flags) (row ∷ rows) =
    let rest = flagged_sum flags rows in
    omega (arith, sum_by-cons (λ (row : Row). length (row_spelling newest row)) row rows, sum_by-cons (λ (row : Row). length (row_spelling newest row)) row (flagged flags rows))
flagged_sum (false ∷ flags) (row ∷ rows) =
    let rest = flagged_sum flags rows in
    omega (arith, sum_by-cons (λ (row : Row). length (row_spelling newest row)) row rows)

pub behind_room : (after : Checkpoint) (flags : List Bool) (end : ℕ) → IsCheckpoint newest after → end ≤ 2 ^ 55
    → end + 17 + length (change_spelling newest (change_to after (flagged flags after.rows))) ≤ last_number
behind_room after flags end lawful ends =
    omega (
      arith,
      change_long newest (change_to after (flagged flags after.rows)),
      flagged_sum flags after.rows,
      checkpoint_long newest after,
      checkpoint_short newest after lawful,
    )

-- ---- a checkpoint beside

pub stands_in : (journal : Option Journal) (before : Checkpoint) (image : Image DiskFile) → EndsWithMemory journal before image → StandsIn journal image
stands_in None before image memory = memory.0
stands_in (Some journal) before image memory = (before, memory)

keeps_memory : (journal : Option Journal) (old new : Image DiskFile) → KeepsOld journal old new → KeepsMemory journal old new
keeps_memory None old new keeps before memory = (keeps, memory.1)
keeps_memory (Some journal) old new keeps before memory = keeps before memory

started_sequence : (journal : Option Journal) (after : Checkpoint) → (started journal after).sequence ≡ sequence_after journal
started_sequence None after = refl
started_sequence (Some journal) after = refl

module _ (journal : Option Journal) (after : Checkpoint) where
  put_of_rewrite : (old new : Image DiskFile) → Rewrites journal after old new → Puts journal after old new
  put_of_rewrite old new rewrites = record {
    files = files_kept (written_file journal) old new (written_is_slot journal) rewrites.others;
    choice = elim rewrites.choice [
      | inl keeps ↦ inl (keeps_memory journal old new keeps)
      | inr written ↦ inr (started journal after, written.journal_is, started_sequence journal after)
    ];
  }

  pub beside_next : (change : Change) → IsCheckpoint newest after → IsDue journal after → IsNext journal after change (started journal after)
  beside_next change lawful due = record {
    short = record { file = written_is_slot journal; base = checkpoint_short newest after lawful };
    sequence = started_sequence journal after;
    anew = λ _. refl;
    goes_on = λ own is not_due. absurd (not_due due);
  }

  module _ {D : Type 0} {images : Images DiskFile D} {old : D} where
    pub each_stands : (change : Change) → EachLeft images old (AwaitsNext journal after change) → EachLeft images old (StandsIn journal)
    each_stands change awaiting = record {
      each = λ image left.
          let awaited = awaiting.each image left in
          stands_in journal awaited.before image awaited.ends;
    }

    pub beside_crash : {new : D} → Passes images (Rewrites journal after) old new → Passes images (Puts journal after) old new
    beside_crash passes = passes_weaker passes put_of_rewrite

    pub beside_early : {new : D} → Passes images (KeepsOld journal) old new → Passes images (KeepsMemory journal) old new
    beside_early passes = passes_weaker passes (keeps_memory journal)

-- ---- what it costs

pub costs_none : (most : ℕ) (before after : Option ℕ) → after ≡ before → WrittenAtMost most before after
costs_none most None None same = tt
costs_none most None (Some _) same = cc
costs_none most (Some _) None same = cc
costs_none most (Some before) (Some after) same = let equal : after ≡ before = cc in omega arith

raised_most : (size most : ℕ) (before : Option ℕ) (file : DiskFile) → size ≤ most → WrittenAtMost most before (written_after file size before)
raised_most size most None Settings within = tt
raised_most size most None Output within = tt
raised_most size most None SlotA within = tt
raised_most size most None SlotB within = tt
raised_most size most (Some before) Settings within = omega arith
raised_most size most (Some before) Output within = omega arith
raised_most size most (Some before) SlotA within = omega arith
raised_most size most (Some before) SlotB within = omega arith

pub costs_at_most : {T E : Type 0} (result : Result T E) (file : DiskFile) (size most : ℕ) (before after : Option ℕ) → size ≤ most → HasWritten result file size before after → WrittenAtMost most before after
costs_at_most (Ok _) file size most before after within is = subst (λ (count : Option ℕ). WrittenAtMost most before count) (sym is) (raised_most size most before file within)
costs_at_most (Err _) file size most before after within (inl same) = costs_none most before after same
costs_at_most (Err _) file size most before after within (inr (some, few, is)) =
    let less : some ≤ most = omega arith in
    subst (λ (count : Option ℕ). WrittenAtMost most before count) (sym is) (raised_most some most before file less)

-- ---- no sequence number left

pub worn_out : {T : Type 0} (result : Result T CommitFault) (worn : Type 0) → (worn → result ≡ Err (Worn last_number)) → OnOk result (worn → ⊥)
worn_out (Ok _) worn fails = λ is. let fault = fails is in cc
worn_out (Err _) worn fails = tt

pub worn_at : {T : Type 0} (result : Result T CommitFault) (worn : Type 0) (sequence : ℕ) → (result ≡ Err (Worn last_number) → worn) → sequence ≡ last_number → result ≡ Err (Worn sequence) → (sequence ≡ last_number) × worn
worn_at result worn sequence only last is = (last, only (is ∙ ap (λ n. Err (Worn n)) last))

-- ---- what a call answered

pub if_ok_at : {T E : Type 0} (result : Result T E) (x : T) (P : T → Type 0) → IfOk result (λ y. y ≡ x) → P x → IfOk result P
if_ok_at (Ok _) x P is holds = subst P (sym is) holds
if_ok_at (Err _) x P is holds = tt

pub if_ok_by : {T E : Type 0} (result : Result T E) (x : T) (P : T → Type 0) (Q : Type 0) → IfOk result (λ y. y ≡ x) → OnOk result Q → (Q → P x) → IfOk result P
if_ok_by (Ok _) x P Q is known holds = subst P (sym is) (holds known)
if_ok_by (Err _) x P Q is known holds = tt
