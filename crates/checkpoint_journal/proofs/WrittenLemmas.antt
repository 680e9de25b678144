-- One more change and a new checkpoint, from the bytes that are written.
use Rattle.std.proofs.Common.{◌≡◌, ℕ, List, [], ◌++◌, ◌∷◌, Option, Some, None, refl, sym, ap, ◌∙◌, subst, inl, inr, arith}
use Rattle.outside.proofs.Passing.{passes_weaker}
use Rattle.outside.specs.Crash.{Passes}
use Rattle.outside.specs.Image.{Image}
use Rattle.outside.specs.Images.{Images}
use Rattle.outside.specs.declared.disk.DiskFile.{DiskFile}
use Rattle.slot_store.specs.Synced.{EachLeft, LeavesChanged}
use Rattle.record_log.specs.Appended as bytes
use Rattle.record_log.specs.LogOf as bytes_of
use Rattle.record_log.specs.declared.log.Log.{Log}
use Rattle.checkpoint_store.specs.Changed.{changed}
use Rattle.checkpoint_store.specs.Limits.{newest}
use Rattle.checkpoint_store.specs.Rules.{IsCheckpoint}
use Rattle.checkpoint_store.specs.Spelling.{change_spelling, checkpoint_spelling}
use Rattle.checkpoint_store.specs.declared.Change.{Change}
use Rattle.checkpoint_store.specs.declared.Checkpoint.{Checkpoint}
use Rattle.checkpoint_journal.proofs.SaysLemmas.{says_changed}
use Rattle.checkpoint_journal.specs.JournalOf.{log_of, EndsWith}
use Rattle.checkpoint_journal.specs.Says.{no_change, Says}
use Rattle.checkpoint_journal.specs.Written.{KeepsJournal, GainsChange, Appends, log_before, started, StandsIn, KeepsOld, Rewrites}
use Rattle.checkpoint_journal.specs.declared.journal.Journal.{Journal}

pub log_ends : (journal : Journal) (checkpoint : Checkpoint) (image : Image DiskFile) → EndsWith journal checkpoint image → bytes_of.EndsWith (log_of journal) image
log_ends journal checkpoint image stands = record {
  base = stands.journal_is.base;
  records = stands.journal_is.records;
  log_is = stands.journal_is.log_is;
  ends = stands.ends;
}

-- ---- one more change

pub keeps_journal : (journal : Journal) (old new : Image DiskFile) → bytes.KeepsLog (log_of journal) old new → KeepsJournal journal old new
keeps_journal journal old new keeps checkpoint has = record {
  base = has.base;
  records = has.records;
  log_is = keeps has.base has.records has.log_is;
  says = has.says;
}

-- the payload is the spelling of the change, and the base is of the version by which it is spelled
pub record IsSpelled (journal : Journal) (change : Change) (payload : List ℕ) : Type 0 where
  pub newest_is : journal.version ≡ newest
  pub payload_is : payload ≡ change_spelling newest change

pub gains_change : (journal : Journal) (change : Change) (payload : List ℕ) (old new : Image DiskFile) → IsSpelled journal change payload → bytes.GainsRecord (log_of journal) payload old new → GainsChange journal change old new
gains_change journal change payload old new spelled gains checkpoint has fits =
    let gained : bytes.GainsRecord (log_of journal) (change_spelling newest change) old new = subst (λ list. bytes.GainsRecord (log_of journal) list old new) spelled.payload_is gains in
    let said : Says newest has.base has.records checkpoint = subst (λ (version : ℕ). Says version has.base has.records checkpoint) spelled.newest_is has.says in
    let records = has.records ++ change_spelling newest change ∷ [] in
    record {
      journal_is = record {
        base = has.base;
        records = records;
        log_is = gained.log_is has.base has.records has.log_is;
        says = subst (λ (version : ℕ). Says version has.base records (changed checkpoint change)) (sym spelled.newest_is) (says_changed newest has.base has.records checkpoint change said fits);
      };
      ends = gained.ends;
    }

pub appends_change : (journal : Journal) (change : Change) (payload : List ℕ) (old new : Image DiskFile) → IsSpelled journal change payload → bytes.Appends (log_of journal) payload old new → Appends journal change old new
appends_change journal change payload old new spelled appends = record {
  others = appends.others;
  choice = elim appends.choice [
    | inl keeps ↦ inl (keeps_journal journal old new keeps)
    | inr gains ↦ inr (gains_change journal change payload old new spelled gains)
  ];
}

-- ---- a new checkpoint

pub log_stands : (before : Option Journal) (image : Image DiskFile) → StandsIn before image → bytes.StandsIn (log_before before) image
log_stands None image stands = stands
log_stands (Some journal) image stands = log_ends journal stands.0 image stands.1

pub logs_stand : {D : Type 0} {images : Images DiskFile D} {disk : D} (before : Option Journal) → EachLeft images disk (StandsIn before) → EachLeft images disk (bytes.StandsIn (log_before before))
logs_stand before stands = record { each = λ image left. log_stands before image (stands.each image left) }

pub keeps_old : (before : Option Journal) (old new : Image DiskFile) → bytes.KeepsOld (log_before before) old new → KeepsOld before old new
keeps_old None old new keeps = keeps
keeps_old (Some journal) old new keeps = keeps_journal journal old new keeps

pub is_rewritten : (before : Option Journal) (checkpoint : Checkpoint) (payload : List ℕ) (image : Image DiskFile) → IsCheckpoint newest checkpoint → payload ≡ checkpoint_spelling newest checkpoint → bytes.IsRewritten (log_before before) payload image → EndsWith (started before checkpoint) checkpoint image
is_rewritten before checkpoint payload image lawful same rewritten =
    let written : bytes.IsRewritten (log_before before) (checkpoint_spelling newest checkpoint) image = subst (λ list. bytes.IsRewritten (log_before before) list image) same rewritten in
    record {
      journal_is = record {
        base = checkpoint_spelling newest checkpoint;
        records = [];
        log_is = written.log_is;
        says = record {
          first = checkpoint;
          base_is = record { version = newest; known = (omega arith, omega arith); lawful = lawful; spelled = refl };
          version_is = refl;
          changes = no_change checkpoint;
        };
      };
      ends = written.ends;
    }

pub rewrites : (before : Option Journal) (checkpoint : Checkpoint) (payload : List ℕ) (old new : Image DiskFile) → IsCheckpoint newest checkpoint → payload ≡ checkpoint_spelling newest checkpoint → bytes.Rewrites (log_before before) payload old new → Rewrites before checkpoint old new
rewrites before checkpoint payload old new lawful same written = record {
  others = written.others;
  choice = elim written.choice [
    | inl keeps ↦ inl (keeps_old before old new keeps)
    | inr rewritten ↦ inr (is_rewritten before checkpoint payload new lawful same rewritten)
  ];
}

-- ---- the same over all images, from what was handed to the calls

-- what was put into an empty list is all of it
pub put_alone : (spelling start out : List ℕ) → start ≡ [] → out ≡ start ++ spelling → out ≡ spelling
put_alone spelling start out empty put = put ∙ ap (λ items. items ++ spelling) empty

-- the log and the payload that an append hands on
pub record IsAppend (journal : Journal) (change : Change) (log : Log) (payload : List ℕ) : Type 0 where
  pub log_is : log ≡ log_of journal
  pub spelled : IsSpelled journal change payload

module _ {D : Type 0} {images : Images DiskFile D} {old new : D} (journal : Journal) (change : Change) (log : Log) (payload : List ℕ) (terms : IsAppend journal change log payload) where
  pub append_passes : Passes images (bytes.Appends log payload) old new → Passes images (Appends journal change) old new
  append_passes passes = passes_weaker passes (λ x y step. appends_change journal change payload x y terms.spelled (subst (λ (one : Log). bytes.Appends one payload x y) terms.log_is step))

  pub append_keeps : Passes images (bytes.KeepsLog log) old new → Passes images (KeepsJournal journal) old new
  append_keeps passes = passes_weaker passes (λ x y step. keeps_journal journal x y (subst (λ (one : Log). bytes.KeepsLog one x y) terms.log_is step))

  pub append_leaves : LeavesChanged images (bytes.GainsRecord log payload) old new → LeavesChanged images (GainsChange journal change) old new
  append_leaves leaves = record {
    each = λ image left.
        let past = leaves.each image left in
        (past.0, past.1, gains_change journal change payload past.0 image terms.spelled (subst (λ (one : Log). bytes.GainsRecord one payload past.0 image) terms.log_is past.2));
  }

-- the log and the payload that a rewrite hands on
pub record IsRewrite (before : Option Journal) (checkpoint : Checkpoint) (log : Option Log) (payload : List ℕ) : Type 0 where
  pub lawful : IsCheckpoint newest checkpoint
  pub log_is : log ≡ log_before before
  pub payload_is : payload ≡ checkpoint_spelling newest checkpoint

pub rewrite_stands : {D : Type 0} {images : Images DiskFile D} {disk : D} (before : Option Journal) (checkpoint : Checkpoint) (log : Option Log) (payload : List ℕ) → IsRewrite before checkpoint log payload → EachLeft images disk (StandsIn before) → EachLeft images disk (bytes.StandsIn log)
rewrite_stands {images = images} {disk = disk} before checkpoint log payload terms stands = subst (λ (one : Option Log). EachLeft images disk (bytes.StandsIn one)) (sym terms.log_is) (logs_stand before stands)

pub rewrite_leaves : {D : Type 0} {images : Images DiskFile D} {disk : D} (before : Option Journal) (checkpoint : Checkpoint) (log : Option Log) (payload : List ℕ) → IsRewrite before checkpoint log payload → EachLeft images disk (bytes.IsRewritten log payload) → EachLeft images disk (EndsWith (started before checkpoint) checkpoint)
rewrite_leaves before checkpoint log payload terms leaves = record {
  each = λ image left. is_rewritten before checkpoint payload image terms.lawful terms.payload_is (subst (λ (one : Option Log). bytes.IsRewritten one payload image) terms.log_is (leaves.each image left));
}

module _ {D : Type 0} {images : Images DiskFile D} {old new : D} (before : Option Journal) (checkpoint : Checkpoint) (log : Option Log) (payload : List ℕ) (terms : IsRewrite before checkpoint log payload) where
  pub rewrite_passes : Passes images (bytes.Rewrites log payload) old new → Passes images (Rewrites before checkpoint) old new
  rewrite_passes passes = passes_weaker passes (λ x y step. rewrites before checkpoint payload x y terms.lawful terms.payload_is (subst (λ (one : Option Log). bytes.Rewrites one payload x y) terms.log_is step))

  pub rewrite_keeps : Passes images (bytes.KeepsOld log) old new → Passes images (KeepsOld before) old new
  rewrite_keeps passes = passes_weaker passes (λ x y step. keeps_old before x y (subst (λ (one : Option Log). bytes.KeepsOld one x y) terms.log_is step))
