-- What a poll leaves of a disk: that of its pass, and of keeping it.
use Rattle.std.proofs.Common.{◌≡◌, ◌⊎◌, ℕ, ◌+◌, List, [], ◌∷◌, ◌++◌, length, Option, None, Some, sym, ap, subst, ◌∙◌, arith, inl, inr}
use Rattle.std.specs.Prelude.{IsTrue}
use Rattle.std.proofs.lemmas.List.{length-append, nil_from_length}
use Rattle.checkpoint_journal.specs.Memory.{EndsWithMemory, HasMemory, KeepsMemory}
use Rattle.checkpoint_journal.specs.Puts.{KeepsFiles}
use Rattle.checkpoint_journal.specs.declared.journal.Journal.{Journal}
use Rattle.checkpoint_store.specs.declared.Checkpoint.{Checkpoint}
use Rattle.file_pass.specs.DiskTerms.{Appends, KeepsDisk, NoFewer}
use Rattle.file_pass.specs.Full.{lines_text}
use Rattle.outside.proofs.Passing.{passes_by, passes_then}
use Rattle.outside.specs.Crash.{Passes}
use Rattle.outside.specs.DiskMeaning.{DiskMeaning}
use Rattle.outside.specs.Image.{AtFile, Image, KeepsFront}
use Rattle.outside.specs.Images.{Images}
use Rattle.outside.specs.declared.disk.DiskFile.{DiskFile}
use Rattle.outside.specs.declared.disk.DiskFile.TheVariants.{Settings, Output, SlotA, SlotB}
use Rattle.poll_core.proofs.DiskLemmas.{ends_goes_on, ends_moved}
use Rattle.poll_core.specs.Polled.{Stays, Steps}
use Rattle.poll_core.specs.Remembers.{IsLeftBy}
use Rattle.poll_core.specs.Saves.{DifferInOutput, IsSavedIn, Saves}
use Rattle.poll_core.specs.SessionParts.{checkpoint_of_session, journal_of_session, kept_of}
use Rattle.poll_core.specs.StandsOn.{StandsOn}
use Rattle.poll_core.specs.declared.session.Session.{Session}
use Rattle.slot_store.specs.Committed.{LeavesOne}
use Rattle.slot_store.specs.Counted.{DoneFewer}
use Rattle.slot_store.specs.Synced.{EachLeft}
use Rattle.standing.specs.Marks.{Mark}

-- what is left comes by either change, and so by what both tell
passes_both : {F D : Type 0} {images : Images F D} {one other both : Image F → Image F → Type 0} {old new : D} → Passes images one old new → Passes images other old new
    → ((x y z : Image F) → images.may_leave old x → one x z → images.may_leave old y → other y z → both y z) → Passes images both old new
passes_both a b join = record {
  later = a.later;
  now_left = λ image left.
      let first = a.now_left image left in
      let second = b.now_left image left in
      (second.0, second.1, join first.0 second.0 image first.1 first.2 second.1 second.2);
  since = λ from image early left. elim (a.since from image early left) [
    | inl before ↦ inl before
    | inr first ↦ elim (b.since from image early left) [
      | inl before ↦ inl before
      | inr second ↦ inr (second.0, second.1, join first.0 second.0 image first.1 first.2 second.1 second.2)
    ]
  ];
  keeps = a.keeps;
}

stays_at : (session : Session) (old new : Image DiskFile) → IsLeftBy session old → AtFile Output (KeepsFront (kept_of session)) old new → Stays session old new
stays_at session old new left at = record {
  settings = at.others Settings (λ same. cc);
  memory = ends_goes_on (journal_of_session session) (checkpoint_of_session session) new
      (ends_moved (journal_of_session session) (checkpoint_of_session session) old new (at.others SlotA (λ same. cc)) (at.others SlotB (λ same. cc)) left.memory);
  front = at.here;
}

module _ {D : Type 0} (meaning : DiskMeaning D) (session : Session) (disk mid : D) (stands : StandsOn meaning.images session disk) (keeps : KeepsDisk meaning (kept_of session) disk mid) where
  front_kept : Passes meaning.images (AtFile Output (KeepsFront (kept_of session))) disk mid
  front_kept = keeps.crash (kept_of session) (omega arith)

  -- an image after the pass comes from one that the session left
  record FromLeft (image : Image DiskFile) : Type 0 where
    old : Image DiskFile
    left : meaning.images.may_leave disk old
    by : IsLeftBy session old
    at : AtFile Output (KeepsFront (kept_of session)) old image

  from_left : (image : Image DiskFile) → meaning.images.may_leave mid image → FromLeft image
  from_left image left =
      let past = front_kept.now_left image left in
      record { old = past.0; left = past.1; by = stands.each.each past.0 past.1; at = past.2 }

  pub mid_ends : (image : Image DiskFile) → meaning.images.may_leave mid image → EndsWithMemory (journal_of_session session) (checkpoint_of_session session) image
  mid_ends image left =
      let from = from_left image left in
      ends_moved (journal_of_session session) (checkpoint_of_session session) from.old image (from.at.others SlotA (λ same. cc)) (from.at.others SlotB (λ same. cc)) from.by.memory

  pub mid_differs : (one other : Image DiskFile) → meaning.images.may_leave mid one → meaning.images.may_leave mid other → DifferInOutput one other
  mid_differs one other left other_left =
      let first = from_left one left in
      let second = from_left other other_left in
      record { same = λ file not_settings not_output. second.at.others file not_output ∙ stands.one.same second.old first.old second.left first.left file not_settings ∙ sym (first.at.others file not_output) }

  pub stays_pass : Passes meaning.images (Stays session) disk mid
  stays_pass = passes_by front_kept (λ x y left at. stays_at session x y (stands.each.each x left) at)

  pub fewer_then : (after : Option ℕ) → DoneFewer 4 (meaning.done disk) after → DoneFewer 4 (meaning.done mid) after
  fewer_then after fewer = by (meaning.done disk) (meaning.done mid) after keeps.done fewer
    where
      by : (start middle end : Option ℕ) → NoFewer start middle → DoneFewer 4 start end → DoneFewer 4 middle end
      by None middle end more fewer = absurd fewer
      by (Some start) None end more fewer = absurd more
      by (Some start) (Some middle) None more fewer = absurd fewer
      by (Some start) (Some middle) (Some end) more fewer = omega (arith, more, fewer)

  module _ (told : (image : Image DiskFile) → meaning.images.may_leave disk image → IsTrue (meaning.images.tells disk)) (shown : IsTrue (meaning.images.tells disk) → meaning.images.may_leave disk (meaning.images.seen disk)) (added : List Mark) (end : ℕ) (appends : Appends meaning (lines_text added) (kept_of session) end disk mid) where
    seen_mid : IsTrue (meaning.images.tells disk) → meaning.images.seen mid Output ≡ meaning.images.seen disk Output ++ lines_text added
    seen_mid tells = (appends.output tells).here

    seen_of : (old : Image DiskFile) → meaning.images.may_leave disk old → meaning.images.seen mid Output ≡ old Output ++ lines_text added
    seen_of old left =
        let tells = told old left in
        seen_mid tells ∙ ap (λ (bytes : List ℕ). bytes ++ lines_text added) (stands.one.same (meaning.images.seen disk) old (shown tells) left Output (λ same. cc))

    pub seen_size : IsTrue (meaning.images.tells disk) → length (meaning.images.seen mid Output) ≡ end
    seen_size tells =
        let by = stands.each.each (meaning.images.seen disk) (shown tells) in
        ap length (seen_mid tells) ∙ length-append (meaning.images.seen disk Output) (lines_text added) ∙ ap (λ (n : ℕ). n + length (lines_text added)) by.output ∙ sym appends.end_is

    -- an image after the pass, or one that keeping it left
    abbrev MaySave : Checkpoint → Image DiskFile → Image DiskFile → Type 0
    MaySave saved old new = AtFile Output (KeepsFront (kept_of session)) old new
        ⊎ ((middle : Image DiskFile) × AtFile Output (KeepsFront (kept_of session)) old middle × Saves (journal_of_session session) saved (meaning.images.seen mid Output) middle new)

    middle_memory : (old middle : Image DiskFile) → IsLeftBy session old → AtFile Output (KeepsFront (kept_of session)) old middle → HasMemory (journal_of_session session) (checkpoint_of_session session) middle
    middle_memory old middle by at = (stays_at session old middle by at).memory

    kept_on : (old middle new : Image DiskFile) → IsLeftBy session old → AtFile Output (KeepsFront (kept_of session)) old middle → KeepsFiles middle new → HasMemory (journal_of_session session) (checkpoint_of_session session) new → Stays session old new
    kept_on old middle new by at files memory = record {
      settings = files.settings ∙ at.others Settings (λ same. cc);
      memory = memory;
      front = subst (λ (bytes : List ℕ). KeepsFront (kept_of session) (old Output) bytes) (sym files.output) at.here;
    }

    pub steps_pass : (saved : Checkpoint) (after : D) → Passes meaning.images (Saves (journal_of_session session) saved (meaning.images.seen mid Output)) mid after → Passes meaning.images (Steps session saved added) disk after
    steps_pass saved after saves =
        let whole : Passes meaning.images (MaySave saved) disk after = passes_then front_kept saves (λ x y at. inl at) (λ x y z at step. inr (y, at, step)) in
        passes_by whole (λ x z left may. elim may [
          | inl at ↦ inl (stays_at session x z (stands.each.each x left) at)
          | inr m ↦ elim m.2.choice [
            | inl same ↦ inl (kept_on x m.0 z (stands.each.each x left) m.1 m.2.files (same (checkpoint_of_session session) (middle_memory x m.0 (stands.each.each x left) m.1)))
            | inr next ↦ inr (record {
              settings = m.2.files.settings ∙ m.1.others Settings (λ same. cc);
              memory = next.0;
              output = m.2.files.output ∙ next.1 ∙ seen_of x left;
            })
          ]
        ])

    -- no file but the slots changed, and the memory is the session's
    abbrev KeepsBoth : Image DiskFile → Image DiskFile → Type 0
    KeepsBoth old new = KeepsFiles old new × HasMemory (journal_of_session session) (checkpoint_of_session session) new

    pub early_pass : (saved : Checkpoint) (after : D) → Passes meaning.images (Saves (journal_of_session session) saved (meaning.images.seen mid Output)) mid after → Passes meaning.images (KeepsMemory (journal_of_session session)) mid after → Passes meaning.images (Stays session) disk after
    early_pass saved after saves keeps_memory =
        let both : Passes meaning.images KeepsBoth mid after = passes_both keeps_memory saves (λ x y z left memory left_too step.
        let from = from_left x left in
        (step.files, memory (checkpoint_of_session session) (middle_memory from.old x from.by from.at))) in
        let whole : Passes meaning.images (λ x z. AtFile Output (KeepsFront (kept_of session)) x z ⊎ ((y : Image DiskFile) × AtFile Output (KeepsFront (kept_of session)) x y × KeepsBoth y z)) disk after =
        passes_then front_kept both (λ x y at. inl at) (λ x y z at step. inr (y, at, step)) in
        passes_by whole (λ x z left may. elim may [
          | inl at ↦ stays_at session x z (stands.each.each x left) at
          | inr m ↦ kept_on x m.0 z (stands.each.each x left) m.1 m.2.0 m.2.1
        ])

    -- what was saved stands beside as many bytes of output
    pub saved_stands : (next : Session) (journal : Journal) (after : D) → journal_of_session next ≡ Some journal → kept_of next ≡ end → LeavesOne meaning.images after
        → ((image : Image DiskFile) → meaning.images.may_leave after image → IsTrue (meaning.images.tells disk))
        → EachLeft meaning.images after (IsSavedIn journal (checkpoint_of_session next) (meaning.images.seen mid Output)) → StandsOn meaning.images next after
    saved_stands next journal after is kept_is one tells each = record {
      one = one;
      each = record {
        each = λ image left.
            let saved = each.each image left in
            record {
              memory = subst (λ (j : Option Journal). EndsWithMemory j (checkpoint_of_session next) image) (sym is) saved.ends;
              output = ap length saved.output_is ∙ seen_size (tells image left) ∙ sym kept_is;
            };
      };
    }

    pub none_added : end ≡ kept_of session → lines_text added ≡ []
    none_added same = nil_from_length (lines_text added) (omega (arith, same, appends.end_is))

    -- where nothing was added, the same stands
    pub left_stands : (next : Session) → end ≡ kept_of session → journal_of_session next ≡ journal_of_session session → checkpoint_of_session next ≡ checkpoint_of_session session → StandsOn meaning.images next mid
    left_stands next same journal_is checkpoint_is =
        subst (λ (d : D). StandsOn meaning.images next d) (sym (appends.idle (none_added same)))
        (record {
          one = stands.one;
          each = record {
            each = λ image left.
                let by = stands.each.each image left in
                record {
                  memory = subst (λ (j : Option Journal). EndsWithMemory j (checkpoint_of_session next) image) (sym journal_is)
                      (subst (λ (c : Checkpoint). EndsWithMemory (journal_of_session session) c image) (sym checkpoint_is) by.memory);
                  output = by.output ∙ sym (ap (λ (c : Checkpoint). c.output_length) checkpoint_is);
                };
          };
        })
