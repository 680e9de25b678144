-- What is one of an image, and what a journal stands on.
use Rattle.std.proofs.Common.{◌≡◌, ℕ, List, Option, Some, None, sym, ◌∙◌, ap, subst, inl, inr, ◌⊎◌}
use Rattle.std.specs.Prelude.{slice_index}
use Rattle.outside.specs.Image.{Image, AtFile, IsCut}
use Rattle.outside.specs.declared.disk.DiskFile.{DiskFile}
use Rattle.outside.specs.declared.disk.DiskFile.TheVariants.{SlotA, SlotB}
use Rattle.slot_store.specs.ChosenSlot.{chosen_slot}
use Rattle.record_log.proofs.LogLaws.{IsOneLog, one_log, log_cut, log_cut_ends, log_of_slots}
use Rattle.checkpoint_store.proofs.Older.{newest_lawful}
use Rattle.checkpoint_store.specs.Changed.{changed}
use Rattle.checkpoint_store.specs.Fits.{Fits}
use Rattle.checkpoint_store.specs.Limits.{newest}
use Rattle.checkpoint_store.specs.Rules.{IsVersion, IsCheckpoint}
use Rattle.checkpoint_store.specs.declared.Change.{Change}
use Rattle.checkpoint_store.specs.declared.Checkpoint.{Checkpoint}
use Rattle.checkpoint_journal.proofs.SaysLemmas.{one_checkpoint, fails_or_says, one_place, says_version, says_known, says_lawful}
use Rattle.checkpoint_journal.specs.JournalOf.{log_of, journal_of, HasJournal, EndsWith, HasCheckpoint, IsBadAt}
use Rattle.checkpoint_journal.specs.Says.{Says, Fails}
use Rattle.checkpoint_journal.specs.Written.{appended, Appends, started, StandsIn, KeepsOld, Rewrites}
use Rattle.checkpoint_journal.specs.declared.journal.Journal.{Journal}

one_of : (image : Image DiskFile) (journal other : Journal) (checkpoint other_checkpoint : Checkpoint) → (has : HasJournal journal checkpoint image) (have : HasJournal other other_checkpoint image) → IsOneLog (log_of journal) (log_of other) has.base have.base has.records have.records
one_of image journal other checkpoint other_checkpoint has have =
    one_log image (log_of journal) (log_of other) has.base have.base has.records have.records has.log_is have.log_is

pub one_journal : (image : Image DiskFile) (journal other : Journal) (checkpoint other_checkpoint : Checkpoint) → HasJournal journal checkpoint image → HasJournal other other_checkpoint image → other ≡ journal
one_journal image journal other checkpoint other_checkpoint has have =
    let one = one_of image journal other checkpoint other_checkpoint has have in
    let version : other.version ≡ journal.version =
    sym (says_version other.version have.base have.records other_checkpoint have.says) ∙ ap (λ base. slice_index base 0) one.base_is ∙ says_version journal.version has.base has.records checkpoint has.says in
    ap (λ log. journal_of log other.version) one.log_is ∙ ap (λ version. journal_of (log_of journal) version) version

pub one_said : (image : Image DiskFile) (journal other : Journal) (checkpoint other_checkpoint : Checkpoint) → HasJournal journal checkpoint image → HasJournal other other_checkpoint image → other_checkpoint ≡ checkpoint
one_said image journal other checkpoint other_checkpoint has have =
    let one = one_of image journal other checkpoint other_checkpoint has have in
    let version : other.version ≡ journal.version = ap (λ one. one.version) (one_journal image journal other checkpoint other_checkpoint has have) in
    let said : Says journal.version has.base has.records other_checkpoint =
    subst (λ (v : ℕ). Says v has.base has.records other_checkpoint) version
    (subst (λ (base : List ℕ). Says other.version base has.records other_checkpoint) one.base_is
    (subst (λ (records : List (List ℕ)). Says other.version have.base records other_checkpoint) one.records_are have.says)) in
    one_checkpoint journal.version has.base has.records checkpoint other_checkpoint has.says said

pub journal_known : (image : Image DiskFile) (journal : Journal) (checkpoint : Checkpoint) → HasJournal journal checkpoint image → IsVersion journal.version
journal_known image journal checkpoint has = says_known journal.version has.base has.records checkpoint has.says

pub journal_lawful : (image : Image DiskFile) (journal : Journal) (checkpoint : Checkpoint) → HasJournal journal checkpoint image → IsCheckpoint journal.version checkpoint
journal_lawful image journal checkpoint has = says_lawful journal.version has.base has.records checkpoint has.says

pub journal_rewritable : (image : Image DiskFile) (journal : Journal) (checkpoint : Checkpoint) → HasJournal journal checkpoint image → IsCheckpoint newest checkpoint
journal_rewritable image journal checkpoint has = newest_lawful journal.version checkpoint (journal_lawful image journal checkpoint has)

pub one_bad : (image : Image DiskFile) (at other : ℕ) → IsBadAt at image → IsBadAt other image → other ≡ at
one_bad image at other bad worse =
    let one = one_log image bad.log worse.log bad.base worse.base bad.records worse.records bad.log_is worse.log_is in
    let failed : Fails bad.base bad.records other =
    subst (λ (base : List ℕ). Fails base bad.records other) one.base_is
    (subst (λ (records : List (List ℕ)). Fails worse.base records other) one.records_are worse.fails) in
    one_place bad.base bad.records at other bad.fails failed

pub bad_no_journal : (image : Image DiskFile) (at : ℕ) (journal : Journal) (checkpoint : Checkpoint) → IsBadAt at image → HasJournal journal checkpoint image → ⊥
bad_no_journal image at journal checkpoint bad has =
    let one = one_log image bad.log (log_of journal) bad.base has.base bad.records has.records bad.log_is has.log_is in
    let said : Says journal.version bad.base bad.records checkpoint =
    subst (λ (base : List ℕ). Says journal.version base bad.records checkpoint) one.base_is
    (subst (λ (records : List (List ℕ)). Says journal.version has.base records checkpoint) one.records_are has.says) in
    fails_or_says journal.version bad.base bad.records at checkpoint bad.fails said

pub bad_slot : (image : Image DiskFile) (at : ℕ) → IsBadAt at image → chosen_slot image ≡ None → ⊥
bad_slot image at bad none =
    let some = bad.log_is.slot in cc

-- ---- what a journal stands on

pub journal_cut : (old new : Image DiskFile) (journal : Journal) (checkpoint : Checkpoint) → HasJournal journal checkpoint old → AtFile journal.slot.file (IsCut journal.end) old new → EndsWith journal checkpoint new
journal_cut old new journal checkpoint has at = record {
  journal_is = record {
    base = has.base;
    records = has.records;
    log_is = log_cut old new (log_of journal) has.base has.records has.log_is at;
    says = has.says;
  };
  ends = (log_cut_ends old new (log_of journal) has.base has.records has.log_is at).ends;
}

pub journal_of_slots : (old new : Image DiskFile) (journal : Journal) (checkpoint : Checkpoint) → new SlotA ≡ old SlotA → new SlotB ≡ old SlotB → HasJournal journal checkpoint old → HasJournal journal checkpoint new
journal_of_slots old new journal checkpoint first second has = record {
  base = has.base;
  records = has.records;
  log_is = log_of_slots old new (log_of journal) has.base has.records first second has.log_is;
  says = has.says;
}

-- ---- the old checkpoint or the new

pub old_or_changed : (journal : Journal) (change : Change) (checkpoint : Checkpoint) (old new : Image DiskFile) → Appends journal change old new → HasJournal journal checkpoint old → Fits newest checkpoint change → HasCheckpoint (Some checkpoint) new ⊎ HasCheckpoint (Some (changed checkpoint change)) new
old_or_changed journal change checkpoint old new appends has fits = elim appends.choice [
  | inl keeps ↦ inl (journal, keeps checkpoint has)
  | inr gains ↦ inr (appended journal change, (gains checkpoint has fits).journal_is)
]

kept_old : (before : Option Journal) (found : Option Checkpoint) (old new : Image DiskFile) → KeepsOld before old new → StandsIn before old → HasCheckpoint found old → HasCheckpoint found new
kept_old None None old new keeps stands has = keeps
kept_old None (Some checkpoint) old new keeps stands has = let some = has.1.log_is.slot in absurd (cc (some, stands))
kept_old (Some journal) None old new keeps stands has = let some = stands.1.journal_is.log_is.slot in absurd (cc (some, has))
kept_old (Some journal) (Some checkpoint) old new keeps stands has =
    let same : has.0 ≡ journal = one_journal old journal has.0 stands.0 checkpoint stands.1.journal_is has.1 in
    (journal, keeps checkpoint (subst (λ (one : Journal). HasJournal one checkpoint old) same has.1))

pub old_or_new : (before : Option Journal) (checkpoint : Checkpoint) (found : Option Checkpoint) (old new : Image DiskFile) → Rewrites before checkpoint old new → StandsIn before old → HasCheckpoint found old → HasCheckpoint found new ⊎ HasCheckpoint (Some checkpoint) new
old_or_new before checkpoint found old new rewrites stands has = elim rewrites.choice [
  | inl keeps ↦ inl (kept_old before found old new keeps stands has)
  | inr written ↦ inr (started before checkpoint, written.journal_is)
]
