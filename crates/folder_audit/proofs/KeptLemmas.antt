-- What is kept, and why it isn't gone by.
use Rattle.std.proofs.Common.{◌≡◌, ℕ, zero, suc, ◌<◌, ◌≤◌, List, [], ◌∷◌, length, take, Some, refl, sym, ap, subst, ◌∙◌, arith}
use Rattle.std.specs.Prelude.{slice_get}
use Rattle.std.proofs.lemmas.List.{length-map}
use Rattle.std.proofs.lemmas.Option.{same_Some}
use Rattle.checkpoint_journal.specs.JournalOf.{HasCheckpoint, IsBadAt}
use Rattle.checkpoint_journal.specs.declared.fault.JournalFault.{JournalFault}
use Rattle.checkpoint_journal.specs.declared.fault.JournalFault.TheVariants as journal
use Rattle.checkpoint_store.specs.Limits.{newest}
use Rattle.checkpoint_store.specs.Rules.{IsCheckpoint}
use Rattle.checkpoint_store.specs.declared.Checkpoint.{Checkpoint}
use Rattle.kept_lines.specs.Split.{AreTexts}
use Rattle.outside.specs.Image.{Image}
use Rattle.outside.specs.declared.disk.DiskFile.{DiskFile}
use Rattle.outside.specs.declared.disk.DiskFile.TheVariants.{Output}
use Rattle.pipeline.specs.AsRules.{rules_of}
use Rattle.pipeline.specs.declared.Pipeline.{Pipeline}
use Rattle.standing.specs.Rows.{KeepStates, Row}
use Rattle.folder_audit.specs.Cause.{audit_journal}
use Rattle.folder_audit.specs.KeptFiles.{AreFitRows, IsFit, IsLast, texts_of}
use Rattle.folder_audit.specs.Inner.KeptOf.{IsKept}
use Rattle.folder_audit.specs.Refusals.{IsReady, IsRefusal, IsUnaudited, flush_on, foreign_state, kept_refused, large, no_reading, short_output}
use Rattle.folder_audit.specs.Inner.Steps.{AreOperators, IsNoOutput, IsOutput, IsUnfit}
use Rattle.folder_audit.specs.declared.fault.AuditFault.{AuditFault}
use Rattle.folder_audit.specs.declared.fault.AuditFault.TheVariants.{Disk, NothingKept, CheckpointBad, KeptSettings, KeptBuild, OutputShort, FlushOn, Large, Differs, Memory}
use Rattle.folder_audit.specs.declared.kept.Kept.{Kept}
use Rattle.folder_audit.proofs.RowLemmas.{fit_rows}

-- ---- refusals

pub journal_refused : (image : Image DiskFile) (given : JournalFault) → ((at : ℕ) → given ≡ journal.Bad at → IsBadAt at image) → IsRefusal image (audit_journal given)
journal_refused image journal.Disk bad = tt
journal_refused image (journal.Bad at) bad = no_reading at (bad at refl)
journal_refused image journal.Memory bad = tt

pub unfit_refused : (image : Image DiskFile) (checkpoint : Checkpoint) (fault : AuditFault) → HasCheckpoint (Some checkpoint) image → IsUnfit checkpoint fault → IsRefusal image fault
unfit_refused image checkpoint (KeptSettings fault) has unfit = kept_refused checkpoint (KeptSettings fault) has unfit
unfit_refused image checkpoint (KeptBuild fault) has unfit = kept_refused checkpoint (KeptBuild fault) has unfit
unfit_refused image checkpoint (CheckpointBad id) has unfit = foreign_state id checkpoint unfit.pipes unfit.last (record { has = has; made = unfit.made; is_last = unfit.is_last }) unfit.foreign
unfit_refused image checkpoint Memory has unfit = tt
unfit_refused image checkpoint Disk has unfit = absurd unfit
unfit_refused image checkpoint NothingKept has unfit = absurd unfit
unfit_refused image checkpoint (OutputShort _ _) has unfit = absurd unfit
unfit_refused image checkpoint FlushOn has unfit = absurd unfit
unfit_refused image checkpoint (Large _) has unfit = absurd unfit
unfit_refused image checkpoint (Differs _ _) has unfit = absurd unfit

pub output_refused : (image : Image DiskFile) (checkpoint : Checkpoint) (pipes : List Pipeline) (last : Pipeline) (fault : AuditFault) → IsReady image checkpoint pipes last → KeepStates (rules_of [] last) checkpoint.rows
    → IsNoOutput pipes checkpoint.output_length (image Output) fault → IsRefusal image fault
output_refused image checkpoint pipes last (OutputShort kept size) ready states short =
    subst (λ (n : ℕ). IsUnaudited image (OutputShort n size)) (sym short.0) (short_output size checkpoint pipes last ready states short.1 short.2)
output_refused image checkpoint pipes last FlushOn ready states short = flush_on checkpoint pipes last (record { ready = ready; states = states; enough = short.0 }) short.1
output_refused image checkpoint pipes last (Large size) ready states short =
    subst (λ (n : ℕ). IsUnaudited image (Large n)) (sym short.1) (large checkpoint pipes last (record { ready = ready; states = states; enough = short.0 }) short.2 short.3)
output_refused image checkpoint pipes last Disk ready states short = tt
output_refused image checkpoint pipes last Memory ready states short = tt
output_refused image checkpoint pipes last NothingKept ready states short = absurd short
output_refused image checkpoint pipes last (CheckpointBad _) ready states short = absurd short
output_refused image checkpoint pipes last (KeptSettings _) ready states short = absurd short
output_refused image checkpoint pipes last (KeptBuild _) ready states short = absurd short
output_refused image checkpoint pipes last (Differs _ _) ready states short = absurd short

-- ---- causes

-- ---- what is gone by

some_at : {A : Type 0} (xs : List A) (k : ℕ) → k < length xs → (x : A) × (slice_get xs k ≡ Some x)
some_at [] k within = absurd (omega (arith, within))
some_at (x ∷ xs) zero within = (x, refl)
some_at (x ∷ xs) (suc k) within = some_at xs k (omega (arith, within))

pub last_there : (pipes : List Pipeline) → 1 ≤ length pipes → (last : Pipeline) × IsLast pipes last
last_there [] some = absurd (omega (arith, some))
last_there (pipe ∷ pipes) some = let at = some_at (pipe ∷ pipes) (length pipes) (omega arith) in (at.0, (length pipes, omega arith, at.1))

pub one_last : (pipes : List Pipeline) (one other : Pipeline) → IsLast pipes one → IsLast pipes other → one ≡ other
one_last pipes one other first second =
    let same : second.0 ≡ first.0 = omega (arith, first.1, second.1) in
    same_Some one other (sym first.2 ∙ ap (λ (k : ℕ). slice_get pipes k) (sym same) ∙ second.2)

pub some_pipes : (checkpoint : Checkpoint) (pipes : List Pipeline) → IsCheckpoint newest checkpoint → AreOperators checkpoint pipes → 1 ≤ length pipes
some_pipes checkpoint pipes lawful are = omega (arith, lawful.eras.some, are.made.many)

pub fit_of : (kept : Kept) (checkpoint : Checkpoint) → IsCheckpoint newest checkpoint → kept.rows ≡ checkpoint.rows → AreOperators checkpoint kept.pipes.items → length (texts_of kept) ≡ length checkpoint.rows → IsFit kept
fit_of kept checkpoint lawful rows are many = record {
  some = some_pipes checkpoint kept.pipes.items lawful are;
  rows = subst (λ (rs : List Row). AreFitRows (length kept.pipes.items) rs) (sym rows) (subst (λ (n : ℕ). AreFitRows n checkpoint.rows) (sym are.made.many) (fit_rows checkpoint lawful));
  few = omega (arith, ap length rows, lawful.count, lawful.next_id.1);
  many = omega (arith, ap length rows, many, length-map kept.lines.items (λ text. text.items));
}

pub kept_of : (image : Image DiskFile) (kept : Kept) (checkpoint : Checkpoint) (output : List ℕ) (count : ℕ) → IsCheckpoint newest checkpoint → kept.rows ≡ checkpoint.rows → HasCheckpoint (Some checkpoint) image → AreOperators checkpoint kept.pipes.items
    → IsOutput kept.pipes.items checkpoint.output_length (image Output) output → count ≡ length checkpoint.rows → AreTexts output count (texts_of kept) → IsKept image kept
kept_of image kept checkpoint output count lawful rows has are is many texts =
    let last = last_there kept.pipes.items (some_pipes checkpoint kept.pipes.items lawful are) in
    record {
      checkpoint = checkpoint;
      lawful = lawful;
      rows = rows;
      last = last.0;
      whole = record {
        ready = record { has = has; made = are.made; is_last = last.1 };
        states = are.states last.0 last.1;
        enough = is.enough;
      };
      flush_off = is.flush_off;
      small = is.small;
      texts = subst (λ (n : ℕ). AreTexts (take checkpoint.output_length (image Output)) n (texts_of kept)) many (subst (λ (o : List ℕ). AreTexts o count (texts_of kept)) is.is texts);
    }
