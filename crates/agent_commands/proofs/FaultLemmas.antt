-- What faults of calls are for a command.
use Rattle.std.proofs.Common.{◌≡◌, ℕ, List, IsTrue, refl, sym, subst}
use Rattle.checkpoint_journal.specs.Written.{IsWorn}
use Rattle.checkpoint_journal.specs.declared.fault.JournalFault.TheVariants as journal
use Rattle.outside.proofs.Passing.{passes_after_same, passes_before_same, passes_by}
use Rattle.outside.specs.Crash.{Passes}
use Rattle.outside.specs.Image.{Same}
use Rattle.outside.specs.Images.{Images}
use Rattle.outside.specs.TreeMeaning.{TreeMeaning}
use Rattle.outside.specs.World.{Told}
use Rattle.outside.specs.declared.disk.DiskFile.{DiskFile}
use Rattle.outside.specs.declared.disk.DiskFile.TheVariants as file
use Rattle.poll_core.specs.OpenCause.{IsOfContents, IsOfSettings}
use Rattle.poll_core.specs.Overflows.{Overflows}
use Rattle.poll_core.specs.Reopens.{Reopens}
use Rattle.poll_core.specs.SessionParts.{journal_of_session}
use Rattle.poll_core.specs.declared.fault.OpenFault.{OpenFault}
use Rattle.poll_core.specs.declared.fault.OpenFault.TheVariants as opening
use Rattle.poll_core.specs.declared.poll_fault.PollFault.{PollFault}
use Rattle.poll_core.specs.declared.poll_fault.PollFault.TheVariants as polling
use Rattle.poll_core.specs.declared.session.Session.{Session}
use Rattle.settings_text.specs.Grammar as grammar
use Rattle.agent_commands.specs.Opens.{IsOpeningFault, IsRefusal, IsSettingsFault}
use Rattle.agent_commands.specs.Turn.{IsPollFault}
use Rattle.poll_core.proofs.DiskLemmas.{reopens_none}

-- ---- polls

pub poll_fault : {T : Type 0} (trees : TreeMeaning T) (session : Session) (tree tree_after : T) (fault : PollFault)
    → ((size : ℕ) → fault ≡ polling.OutputFull size → Told (Overflows session size) (trees.world tree) (trees.world tree_after))
    → ((sequence : ℕ) → fault ≡ polling.Worn sequence → IsWorn (journal_of_session session))
    → IsPollFault trees session tree tree_after fault
poll_fault trees session tree tree_after polling.Disk full worn = tt
poll_fault trees session tree tree_after (polling.OutputFull size) full worn = full size refl
poll_fault trees session tree tree_after (polling.Worn sequence) full worn = worn sequence refl
poll_fault trees session tree tree_after polling.Memory full worn = tt

-- ---- opening

module _ {D : Type 0} (images : Images DiskFile D) (old mid : D) where
  -- the settings file's bytes were read
  pub record HasRead (text : List ℕ) : Type 0 where
    pub tells : images.tells mid ≡ images.tells old
    pub seen : images.seen mid ≡ images.seen old
    pub text_is : IsTrue (images.tells old) → text ≡ images.seen old file.Settings
    pub crash : Passes images Same old mid

  untouched_by_settings : (new : D) → Passes images Same old mid → new ≡ mid → Passes images Same old new
  untouched_by_settings new read same = subst (λ d. Passes images Same old d) (sym same) read

  pub opening_untouched : (fault : OpenFault) (new : D) → Passes images Same old mid → (IsOfSettings fault → new ≡ mid)
      → (IsOfContents fault → Passes images Same mid new) → IsRefusal fault → Passes images Same old new
  opening_untouched (opening.Settings _) new read settings contents refusal = untouched_by_settings new read (settings tt)
  opening_untouched (opening.Build _) new read settings contents refusal = untouched_by_settings new read (settings tt)
  opening_untouched opening.Disk new read settings contents refusal = absurd refusal
  opening_untouched (opening.CheckpointBad _) new read settings contents refusal = passes_before_same read (contents tt)
  opening_untouched (opening.SettingsChanged _) new read settings contents refusal = passes_before_same read (contents tt)
  opening_untouched (opening.OutputShort _ _) new read settings contents refusal = passes_before_same read (contents tt)
  opening_untouched opening.Memory new read settings contents refusal = absurd refusal

  pub reads_then_reopens : (new : D) → Passes images Same old mid → Passes images Reopens mid new → Passes images Reopens old new
  reads_then_reopens new read reopens = passes_after_same read reopens reopens_none

  pub read_reopens : Passes images Same old mid → Passes images Reopens old mid
  read_reopens read = passes_by read (λ x y left same. subst (λ z. Reopens x z) (sym same) (reopens_none x))

  -- a fault of the settings file is one of opening, and where it is a refusal the disk was only read
  pub settings_fault_opens : (fault : OpenFault) → IsSettingsFault images old fault → IsOpeningFault images old fault
  settings_fault_opens (opening.Settings fault) cause = cause
  settings_fault_opens opening.Disk cause = tt
  settings_fault_opens opening.Memory cause = tt
  settings_fault_opens (opening.Build _) cause = absurd cause
  settings_fault_opens (opening.CheckpointBad _) cause = absurd cause
  settings_fault_opens (opening.SettingsChanged _) cause = absurd cause
  settings_fault_opens (opening.OutputShort _ _) cause = absurd cause

-- ---- the checkpoint alone
