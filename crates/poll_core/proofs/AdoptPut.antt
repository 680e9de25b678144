-- What putting an adoption leaves of a disk.
use Rattle.std.proofs.Common.{◌≡◌, ℕ, List, Option, sym, ap, subst, ◌∙◌, inl}
use Rattle.std.specs.Prelude.{IsTrue}
use Rattle.checkpoint_journal.proofs.PutLemmas.{beside_crash, stands_in}
use Rattle.checkpoint_journal.specs.JournalOf.{EndsWith}
use Rattle.checkpoint_journal.specs.Puts.{Puts}
use Rattle.checkpoint_journal.specs.Written.{Rewrites, StandsIn, started}
use Rattle.checkpoint_journal.specs.declared.journal.Journal.{Journal}
use Rattle.checkpoint_store.specs.declared.Checkpoint.{Checkpoint}
use Rattle.file_pass.specs.DiskTerms.{Appends, KeepsDisk}
use Rattle.file_pass.specs.Full.{lines_text}
use Rattle.outside.proofs.Passing.{passes_before_same, passes_weaker}
use Rattle.outside.specs.Crash.{Passes}
use Rattle.outside.specs.DiskMeaning.{DiskMeaning}
use Rattle.outside.specs.Image.{Image, Same}
use Rattle.outside.specs.Images.{Images}
use Rattle.outside.specs.declared.disk.DiskFile.{DiskFile}
use Rattle.outside.specs.declared.disk.DiskFile.TheVariants.{Output}
use Rattle.poll_core.proofs.PollDisk.{mid_differs, mid_ends, stays_pass, steps_pass}
use Rattle.poll_core.proofs.SaveLemmas.{IsSynced, one_synced, saves_after}
use Rattle.poll_core.specs.Adoption.{HasPut}
use Rattle.poll_core.specs.Polled.{Stays, Steps}
use Rattle.poll_core.specs.SessionParts.{checkpoint_of_session, journal_of_session, kept_of}
use Rattle.poll_core.specs.StandsOn.{StandsOn}
use Rattle.poll_core.specs.declared.adoption.Adoption.{Adoption}
use Rattle.poll_core.specs.declared.session.Session.{Session}
use Rattle.slot_store.specs.Committed.{LeavesOne}
use Rattle.slot_store.specs.Synced.{EachLeft}
use Rattle.standing.specs.Marks.{Mark}

stays_or : (session : Session) (after : Checkpoint) (added : List Mark) (old new : Image DiskFile) → Stays session old new → Steps session after added old new
stays_or session after added old new stays = inl stays

-- Lines were written behind the output, or a part of them, wherever that was cut short.
module _ {D : Type 0} (meaning : DiskMeaning D) (session : Session) (after : Checkpoint) {disk mid : D} (stands : StandsOn meaning.images session disk) (keeps : KeepsDisk meaning (kept_of session) disk mid) where
  pub written_crash : (added : List Mark) → Passes meaning.images (Steps session after added) disk mid
  written_crash added = passes_weaker (stays_pass meaning session disk mid stands keeps) (stays_or session after added)

  pub unsynced_crash : {new : D} → Passes meaning.images Same mid new → (added : List Mark) → Passes meaning.images (Steps session after added) disk new
  unsynced_crash same added = passes_weaker (passes_before_same (stays_pass meaning session disk mid stands keeps) same) (stays_or session after added)

  module _ {synced : D} (sync : IsSynced meaning.images mid synced) where
    abbrev images : Images DiskFile D
    images = meaning.images

    abbrev before : Option Journal
    before = journal_of_session session

    pub each_stands : EachLeft images synced (StandsIn before)
    each_stands = record {
      each = λ image left.
          let past = sync.crash.now_left image left in
          subst (λ (i : Image DiskFile). StandsIn before i) (sym past.2) (stands_in before (checkpoint_of_session session) past.0 (mid_ends meaning session disk mid stands keeps past.0 past.1));
    }

    pub leaves_one : LeavesOne images synced
    leaves_one = one_synced (mid_differs meaning session disk mid stands keeps) sync

    module _ (put : Checkpoint) (put_is : put ≡ after) {new : D} (rewrites : Passes images (Rewrites before put) synced new) where
      puts : Passes images (Puts before after) synced new
      puts = subst (λ (c : Checkpoint). Passes images (Puts before c) synced new) put_is (beside_crash before put rewrites)

      module _ (told : (image : Image DiskFile) → images.may_leave disk image → IsTrue (images.tells disk)) (shown : IsTrue (images.tells disk) → images.may_leave disk (images.seen disk)) where
        pub put_crash : (added : List Mark) (end : ℕ) → Appends meaning (lines_text added) (kept_of session) end disk mid → Passes images (Steps session after added) disk new
        put_crash added end appends = steps_pass meaning session disk mid stands keeps told shown added end appends after new (saves_after before after sync puts)

        -- each image has the checkpoint that was put, beside the lines that were
        pub has_put : (adoption : Adoption) → adoption.checkpoint ≡ after → (end : ℕ) → Appends meaning adoption.lines.items (kept_of session) end disk mid → ((image : Image DiskFile) → images.may_leave new image → IsTrue (images.tells disk))
            → EachLeft images new (EndsWith (started before put) put) → EachLeft images new (HasPut adoption (images.seen disk Output))
        has_put adoption same end appends tells ends = record {
          each = λ image left.
              let past = puts.now_left image left in
              let synced_output : past.0 Output ≡ images.seen synced Output = sync.durable past.0 past.1 in
              let grown = (appends.output (tells image left)).here in
              record {
                has = (started before put, (subst (λ (c : Checkpoint). EndsWith (started before put) c image) (put_is ∙ sym same) (ends.each image left)).journal_is);
                output_is = past.2.files.output ∙ synced_output ∙ ap (λ (i : Image DiskFile). i Output) sync.seen ∙ grown;
              };
        }
