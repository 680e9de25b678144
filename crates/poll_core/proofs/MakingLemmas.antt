-- A session is made of what was found.
use Rattle.std.proofs.Common.{◌≡◌, ℕ, ◌<◌, ◌≤◌, List, length, Bool, true, false, Option, Some, None, Ok, Err, refl, sym, subst, arith}
use Rattle.std.proofs.lemmas.Bool.Decides.{nat_tests}
use Rattle.std.specs.Prelude.{IfSome, nat_lt, if◌then◌else◌}
use Rattle.checkpoint_journal.specs.JournalOf.{FoundIn, HasJournal, IsBadAt}
use Rattle.checkpoint_journal.specs.Memory.{HasMemory}
use Rattle.checkpoint_journal.specs.declared.fault.JournalFault.{JournalFault}
use Rattle.checkpoint_journal.specs.declared.fault.JournalFault.TheVariants as journal
use Rattle.checkpoint_journal.specs.declared.journal.Journal.{Journal}
use Rattle.checkpoint_store.proofs.Older.{newest_lawful}
use Rattle.checkpoint_store.specs.Limits.{newest}
use Rattle.checkpoint_store.specs.Rules.{IsCheckpoint}
use Rattle.checkpoint_store.specs.declared.Checkpoint.{Checkpoint}
use Rattle.outside.specs.Image.{Image}
use Rattle.outside.specs.declared.disk.DiskFile.{DiskFile}
use Rattle.outside.specs.declared.disk.DiskFile.TheVariants.{Output}
use Rattle.pipeline.specs.AsRules.{rules_of}
use Rattle.pipeline.specs.declared.Pipeline.{Pipeline}
use Rattle.poll_core.specs.IsSession.{IsSession}
use Rattle.pipeline.specs.MadeOf.{IsMadeOf}
use Rattle.poll_core.specs.Making.{IsOfFound, IsRejected}
use Rattle.poll_core.specs.OpenCause.{IsOfContents, journal_refusal}
use Rattle.poll_core.specs.OpenFaults.{IsRefused, no_reading, other_settings, foreign_state, short_output}
use Rattle.poll_core.specs.Remembers.{GoesOnFrom}
use Rattle.poll_core.specs.SessionParts.{checkpoint_of_session, journal_of_session, rules_of_session, settings_of_session, kept_of}
use Rattle.poll_core.specs.declared.fault.OpenFault.{OpenFault}
use Rattle.poll_core.specs.declared.fault.OpenFault.TheVariants.{Settings, Build, Disk, CheckpointBad, SettingsChanged, OutputShort, Memory}
use Rattle.poll_core.specs.declared.session.Session.{Session}
use Rattle.settings_text.specs.Grammar.{settings, settings_of, json_of}
use Rattle.settings_text.specs.Outcome.{◌>>=◌, or_fault}
use Rattle.settings_text.specs.declared.fault.SettingsFault.TheVariants.{NotJson, TooLong}
use Rattle.settings_text.specs.declared.settings.Settings.{Settings as Said}

-- ---- parts

pub short_text : (text : List ℕ) (said : Said) → settings text ≡ Ok said → length text ≤ 1048576
unfolding settings
short_text text said is = by (nat_lt 1048576 (length text)) refl is
  where
    by : (test : Bool) → nat_lt 1048576 (length text) ≡ test → (if test then Err (TooLong (length text)) else (or_fault NotJson (json_of text) >>= settings_of)) ≡ Ok said → length text ≤ 1048576
    by true long is = absurd (cc)
    by false short is = grind (arith, nat_tests)

-- a checkpoint of any version can be written again
pub found_newest : (found : Option (Journal × Checkpoint)) → IfSome found (λ known. IsCheckpoint known.0.version known.1) → IfSome found (λ known. IsCheckpoint newest known.1)
found_newest None lawful = tt
found_newest (Some known) lawful = newest_lawful known.0.version known.1 lawful

-- ---- refusals

pub rejected_refused : (text : List ℕ) (pipeline : Pipeline) (image : Image DiskFile) (found : Option (Journal × Checkpoint)) (fault : OpenFault)
    → IsMadeOf text pipeline → FoundIn found image → IsRejected text (rules_of text pipeline) found fault → IsOfContents fault → IsRefused text image fault
rejected_refused text pipeline image None fault made has rejected of_contents = absurd (subst IsOfContents rejected of_contents)
rejected_refused text pipeline image (Some found) (Settings _) made has rejected of_contents = absurd rejected
rejected_refused text pipeline image (Some found) (Build _) made has rejected of_contents = absurd rejected
rejected_refused text pipeline image (Some found) Disk made has rejected of_contents = absurd rejected
rejected_refused text pipeline image (Some found) (CheckpointBad id) made has rejected of_contents =
    foreign_state id (record {
      checkpoint = found.1;
      of_text = record { has = (found.0, has); settings = rejected.0 };
      rules = rules_of text pipeline;
      rules_are = (pipeline, made, refl);
      foreign = rejected.1;
    })
rejected_refused text pipeline image (Some found) (SettingsChanged at) made has rejected of_contents =
    other_settings at (record { checkpoint = found.1; has = (found.0, has); differ = rejected })
rejected_refused text pipeline image (Some found) (OutputShort _ _) made has rejected of_contents = absurd rejected
rejected_refused text pipeline image (Some found) Memory made has rejected of_contents = absurd of_contents

pub journal_refused : (text : List ℕ) (image : Image DiskFile) (given : JournalFault) → ((at : ℕ) → given ≡ journal.Bad at → IsBadAt at image) → IsOfContents (journal_refusal given) → IsRefused text image (journal_refusal given)
journal_refused text image journal.Disk bad of_contents = absurd of_contents
journal_refused text image (journal.Bad at) bad of_contents = no_reading at (bad at refl)
journal_refused text image journal.Memory bad of_contents = absurd of_contents

-- ---- what the session remembers

memory_of : (session : Session) (image : Image DiskFile) (found : Option (Journal × Checkpoint)) → IsOfFound found session → FoundIn found image → HasMemory (journal_of_session session) (checkpoint_of_session session) image
memory_of session image None is has = subst (λ j. HasMemory j (checkpoint_of_session session) image) (sym is.0) (has, is.1)
memory_of session image (Some found) is has =
    let here : HasJournal found.0 (checkpoint_of_session session) image = subst (λ (c : Checkpoint). HasJournal found.0 c image) (sym is.1) has in
    subst (λ j. HasMemory j (checkpoint_of_session session) image) (sym is.0) here

pub goes_on_from : (session : Session) (image : Image DiskFile) (found : Option (Journal × Checkpoint)) (size : ℕ) → IsOfFound found session → FoundIn found image → size ≡ length (image Output) → kept_of session ≤ size → GoesOnFrom session image
goes_on_from session image found size is has size_is enough = record {
  memory = memory_of session image found is has;
  long_enough = omega (arith, enough, size_is);
}

pub short_refused : (text : List ℕ) (session : Session) (image : Image DiskFile) (found : Option (Journal × Checkpoint)) (size : ℕ) → IsSession session → settings_of_session session ≡ text → IsOfFound found session → FoundIn found image → size ≡ length (image Output) → size < kept_of session → IsRefused text image (OutputShort (kept_of session) size)
short_refused text session image None size is settings_are of_found has size_is short = absurd (omega (arith, short, of_found.1.output))
short_refused text session image (Some found) size is settings_are of_found has size_is short =
    short_output (kept_of session) size (record {
      checkpoint = checkpoint_of_session session;
      of_text = record { has = (found.0, subst (λ (c : Checkpoint). HasJournal found.0 c image) (sym of_found.1) has); settings = settings_are };
      rules = rules_of_session session;
      rules_are = subst (λ t. (pipeline : Pipeline) × IsMadeOf t pipeline × (rules_of_session session ≡ rules_of t pipeline)) settings_are (session.pipeline, is.made, refl);
      states = is.states;
      kept_is = refl;
      size_is = size_is;
      short = short;
    })
