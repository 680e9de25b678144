-- Why settings aren't adopted, as the image tells it.
use Rattle.std.proofs.Common.{◌≡◌, ◌≢◌, ℕ, ◌+◌, ◌<◌, ◌≤◌, max, List, length, Option, ap, refl, sym, ◌∙◌, subst, arith}
use Rattle.checkpoint_journal.specs.JournalOf.{HasJournal, IsBadAt, log_of}
use Rattle.checkpoint_journal.specs.Written.{IsWorn}
use Rattle.checkpoint_journal.specs.declared.fault.JournalFault.{JournalFault}
use Rattle.checkpoint_journal.specs.declared.fault.JournalFault.TheVariants as journal
use Rattle.checkpoint_journal.specs.declared.journal.Journal.{Journal}
use Rattle.checkpoint_store.specs.declared.Checkpoint.{Checkpoint}
use Rattle.file_pass.specs.Full.{line_of, lines_text}
use Rattle.outside.specs.Image.{Image}
use Rattle.outside.specs.declared.disk.DiskFile.{DiskFile}
use Rattle.outside.specs.declared.disk.DiskFile.TheVariants.{Output}
use Rattle.pipeline.specs.AsRules.{rules_of}
use Rattle.pipeline.specs.declared.Pipeline.{Pipeline}
use Rattle.poll_core.proofs.AdoptDisk.{HasOwnJournal, has_journal, has_saved}
use Rattle.poll_core.proofs.PollLines.{within_own}
use Rattle.poll_core.specs.AdoptCause.{IsOfKept, IsOfNext, adopt_journal}
use Rattle.poll_core.specs.AdoptFaults.{HasOwnRules, IsKeptRefusal, IsNextRefusal, IsOfOther, IsUnadopted, MayFollow, no_reading, bad_settings, bad_operators, foreign_state, short_output, other_fingerprint, too_many, full, worn}
use Rattle.poll_core.specs.Adoption.{HasClosedAll, HasNoRoom, IsBarred, MayFollowOn, front_size_of, lines_held}
use Rattle.poll_core.specs.IsSession.{IsSession}
use Rattle.pipeline.specs.MadeOf.{IsMadeOf}
use Rattle.pipeline.specs.Foreign.{IsLeastForeign}
use Rattle.poll_core.specs.Remembers.{GoesOnFrom}
use Rattle.poll_core.specs.Sequence.{HasSequence, of_log}
use Rattle.poll_core.specs.SessionParts.{checkpoint_of_session, journal_of_session, kept_of, last_text, limit_of, rules_of_session, settings_of_session}
use Rattle.poll_core.specs.declared.adopt_fault.AdoptFault.{AdoptFault}
use Rattle.poll_core.specs.declared.adopt_fault.AdoptFault.TheVariants.{Settings, Build, Disk, NothingKept, CheckpointBad, KeptSettings, Kept, OutputShort, Fingerprint, Eras, OutputFull, Worn, Memory}
use Rattle.part_closing.specs.declared.closing.Closing.{Closing}
use Rattle.poll_core.specs.declared.session.Session.{Session}
use Rattle.slot_store.specs.Frame.{last_number}
use Rattle.standing.specs.Marks.{Mark}
use Rattle.standing.specs.Rows.{KeepStates}

-- ---- of what is kept

pub journal_unadopted : (text : List ℕ) (limit : ℕ) (image : Image DiskFile) (given : JournalFault) → ((at : ℕ) → given ≡ journal.Bad at → IsBadAt at image) → IsOfKept (adopt_journal given) → IsUnadopted text limit image (adopt_journal given)
journal_unadopted text limit image journal.Disk bad of_kept = absurd of_kept
journal_unadopted text limit image (journal.Bad at) bad of_kept = no_reading at (bad at refl)
journal_unadopted text limit image journal.Memory bad of_kept = absurd of_kept

module _ (text : List ℕ) (limit : ℕ) (image : Image DiskFile) (own : Journal) (before : Checkpoint) (has : HasJournal own before image) where
  pub kept_unadopted : (fault : AdoptFault) → IsKeptRefusal (last_text before.eras) fault → IsOfKept fault → IsUnadopted text limit image fault
  kept_unadopted (Settings _) refusal of_kept = absurd of_kept
  kept_unadopted (Build _) refusal of_kept = absurd of_kept
  kept_unadopted Disk refusal of_kept = absurd of_kept
  kept_unadopted NothingKept refusal of_kept = absurd refusal
  kept_unadopted (CheckpointBad _) refusal of_kept = absurd refusal
  kept_unadopted (KeptSettings fault) refusal of_kept = bad_settings fault (record { before = before; has = (own, has); cause = refusal })
  kept_unadopted (Kept fault) refusal of_kept = bad_operators fault (record { before = before; has = (own, has); cause = refusal })
  kept_unadopted (OutputShort _ _) refusal of_kept = absurd refusal
  kept_unadopted (Fingerprint _ _) refusal of_kept = absurd refusal
  kept_unadopted Eras refusal of_kept = absurd refusal
  kept_unadopted (OutputFull _) refusal of_kept = absurd refusal
  kept_unadopted (Worn _) refusal of_kept = absurd refusal
  kept_unadopted Memory refusal of_kept = absurd of_kept

  module _ (pipeline : Pipeline) (made : IsMadeOf (last_text before.eras) pipeline) where
    abbrev own_rules_of : HasOwnRules image
    own_rules_of = record { before = before; has = (own, has); rules = rules_of (last_text before.eras) pipeline; rules_are = (pipeline, made, refl) }

    pub foreign_unadopted : (id : ℕ) → IsLeastForeign (rules_of (last_text before.eras) pipeline) before.rows id → IsUnadopted text limit image (CheckpointBad id)
    foreign_unadopted id foreign = foreign_state id own_rules_of foreign

    pub short_unadopted : (size : ℕ) → KeepStates (rules_of (last_text before.eras) pipeline) before.rows → size ≡ length (image Output) → size < before.output_length → IsUnadopted text limit image (OutputShort before.output_length size)
    short_unadopted size states is short = short_output size own_rules_of states is short

-- a fault that is none of the settings to be adopted comes once these are read and made
pub late_next : (text : List ℕ) (pipeline : Pipeline) (fault : AdoptFault) → IsMadeOf text pipeline → (IsOfNext fault → ⊥) → IsNextRefusal text fault
late_next text pipeline (Settings _) made late = absurd (late tt)
late_next text pipeline (Build _) made late = absurd (late tt)
late_next text pipeline Disk made late = (rules_of text pipeline, (pipeline, made, refl))
late_next text pipeline NothingKept made late = (rules_of text pipeline, (pipeline, made, refl))
late_next text pipeline (CheckpointBad _) made late = (rules_of text pipeline, (pipeline, made, refl))
late_next text pipeline (KeptSettings _) made late = (rules_of text pipeline, (pipeline, made, refl))
late_next text pipeline (Kept _) made late = (rules_of text pipeline, (pipeline, made, refl))
late_next text pipeline (OutputShort _ _) made late = (rules_of text pipeline, (pipeline, made, refl))
late_next text pipeline (Fingerprint _ _) made late = (rules_of text pipeline, (pipeline, made, refl))
late_next text pipeline Eras made late = (rules_of text pipeline, (pipeline, made, refl))
late_next text pipeline (OutputFull _) made late = (rules_of text pipeline, (pipeline, made, refl))
late_next text pipeline (Worn _) made late = (rules_of text pipeline, (pipeline, made, refl))
late_next text pipeline Memory made late = tt

-- ---- of a session that goes on from the image

module _ (session : Session) (own : HasOwnJournal session) (is : IsSession session) (text : List ℕ) (next : Pipeline) (made : IsMadeOf text next) (other : settings_of_session session ≢ text) (image : Image DiskFile) (goes_on : GoesOnFrom session image) where
  abbrev own_rules : HasOwnRules image
  own_rules = record {
    before = checkpoint_of_session session;
    has = has_saved session own image goes_on.memory;
    rules = rules_of_session session;
    rules_are = (session.pipeline, is.made, refl);
  }

  abbrev of_other : IsOfOther text image own_rules (rules_of text next)
  of_other = record { states = is.states; enough = goes_on.long_enough; other_text = other; next_are = (next, made, refl) }

  abbrev Refused : AdoptFault → Type 0
  Refused fault = IsUnadopted text (limit_of session) image fault

  pub barred_unadopted : (fault : AdoptFault) → IsBarred session next fault → Refused fault
  barred_unadopted (Settings _) barred = absurd barred
  barred_unadopted (Build _) barred = absurd barred
  barred_unadopted Disk barred = absurd barred
  barred_unadopted NothingKept barred = absurd barred
  barred_unadopted (CheckpointBad _) barred = absurd barred
  barred_unadopted (KeptSettings _) barred = absurd barred
  barred_unadopted (Kept _) barred = absurd barred
  barred_unadopted (OutputShort _ _) barred = absurd barred
  barred_unadopted (Fingerprint kept found) barred =
      let differ : front_size_of session.pipeline ≢ front_size_of next = λ same. barred.2 (barred.0 ∙ same ∙ sym barred.1) in
      let first : Refused (Fingerprint (front_size_of session.pipeline) (front_size_of next)) = other_fingerprint own_rules (rules_of text next) of_other differ in
      let P : ℕ → Type 0 = λ n. Refused (Fingerprint (front_size_of session.pipeline) n) in
      let Q : ℕ → Type 0 = λ n. Refused (Fingerprint n found) in
      subst Q (sym barred.0) (subst P (sym barred.1) first)
  barred_unadopted Eras barred = too_many own_rules (rules_of text next) of_other barred.0 (omega (arith, barred.1, is.lawful.eras.few))
  barred_unadopted (OutputFull _) barred = absurd barred
  barred_unadopted (Worn _) barred = absurd barred
  barred_unadopted Memory barred = absurd barred

  last_sequence : IsWorn (journal_of_session session) → HasSequence image last_number
  last_sequence worn_out =
      let last : own.journal.sequence ≡ last_number = subst (λ (j : Option Journal). IsWorn j) own.is worn_out in
      let has : HasJournal own.journal (checkpoint_of_session session) image = has_journal session own image goes_on.memory in
      subst (λ n. HasSequence image n) last (of_log (log_of own.journal) has.base has.records has.log_is)

  pub no_room_unadopted : ((mark : Mark) → 0 < length (line_of mark)) → (follows : MayFollowOn session next) (closing : Closing) → HasClosedAll session next closing → (fault : AdoptFault) → HasNoRoom session closing.lines.items fault → Refused fault
  no_room_unadopted lines_some follows closing closed fault none = by fault none
    where
      may_follow : MayFollow text image own_rules
      may_follow = record { next = rules_of text next; of_other = of_other; one_front_size = follows.one_front_size; few = follows.few }

      by : (fault : AdoptFault) → HasNoRoom session closing.lines.items fault → Refused fault
      by (Settings _) none = absurd none
      by (Build _) none = absurd none
      by Disk none = absurd none
      by NothingKept none = absurd none
      by (CheckpointBad _) none = absurd none
      by (KeptSettings _) none = absurd none
      by (Kept _) none = absurd none
      by (OutputShort _ _) none = absurd none
      by (Fingerprint _ _) none = absurd none
      by Eras none = absurd none
      by (OutputFull size) none = full size own_rules may_follow (none (lines_held session) closed.lines_are)
      by (Worn sequence) none =
          let P : ℕ → Type 0 = λ n. Refused (Worn n) in
          let end : ℕ = kept_of session + length (lines_text (lines_held session)) in
          let size : length closing.lines.items ≡ length (lines_text (lines_held session)) = ap (λ (t : List ℕ). length t) closed.lines_are in
          let within : end ≤ max (limit_of session) (kept_of session) = omega (arith, none.2, size) in
          subst P (sym none.0) (worn own_rules may_follow (within_own lines_some (limit_of session) (kept_of session) end (lines_held session) refl within) (last_sequence none.1))
      by Memory none = absurd none

-- a bar is none of the settings' own faults, and none of the disk
pub barred_late : (session : Session) (next : Pipeline) (fault : AdoptFault) → IsBarred session next fault → IsOfNext fault → ⊥
barred_late session next (Settings _) barred of_next = barred
barred_late session next (Build _) barred of_next = barred
barred_late session next Disk barred of_next = of_next
barred_late session next NothingKept barred of_next = of_next
barred_late session next (CheckpointBad _) barred of_next = of_next
barred_late session next (KeptSettings _) barred of_next = of_next
barred_late session next (Kept _) barred of_next = of_next
barred_late session next (OutputShort _ _) barred of_next = of_next
barred_late session next (Fingerprint _ _) barred of_next = of_next
barred_late session next Eras barred of_next = of_next
barred_late session next (OutputFull _) barred of_next = of_next
barred_late session next (Worn _) barred of_next = of_next
barred_late session next Memory barred of_next = of_next

pub no_room_late : (session : Session) (lines : List ℕ) (fault : AdoptFault) → HasNoRoom session lines fault → IsOfNext fault → ⊥
no_room_late session lines (Settings _) none of_next = none
no_room_late session lines (Build _) none of_next = none
no_room_late session lines Disk none of_next = of_next
no_room_late session lines NothingKept none of_next = of_next
no_room_late session lines (CheckpointBad _) none of_next = of_next
no_room_late session lines (KeptSettings _) none of_next = of_next
no_room_late session lines (Kept _) none of_next = of_next
no_room_late session lines (OutputShort _ _) none of_next = of_next
no_room_late session lines (Fingerprint _ _) none of_next = of_next
no_room_late session lines Eras none of_next = of_next
no_room_late session lines (OutputFull _) none of_next = of_next
no_room_late session lines (Worn _) none of_next = of_next
no_room_late session lines Memory none of_next = of_next
