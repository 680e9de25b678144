-- Opening over an image has one answer.
use Rattle.std.proofs.Common.{◌≡◌, ℕ, ◌≤◌, List, length, true, Option, Some, None, refl, sym, ap, ◌∙◌, subst, arith}
use Rattle.std.specs.Prelude.{IsTrue}
use Rattle.std.proofs.lemmas.Option.{get_or_from_slice_get, slice_get_within}
use Rattle.checkpoint_journal.proofs.JournalLaws.{one_said, one_bad, bad_no_journal, bad_slot}
use Rattle.checkpoint_journal.specs.JournalOf.{HasCheckpoint, IsBadAt}
use Rattle.checkpoint_journal.specs.Memory.{HasMemory}
use Rattle.checkpoint_journal.specs.declared.journal.Journal.{Journal}
use Rattle.outside.specs.Image.{Image}
use Rattle.outside.specs.declared.disk.DiskFile.{DiskFile}
use Rattle.outside.specs.declared.disk.DiskFile.TheVariants.{Output}
use Rattle.poll_core.proofs.DifferLemmas.{not_same, one_place}
use Rattle.poll_core.proofs.ImageLemmas.{no_journal}
use Rattle.poll_core.proofs.EraLemmas.{last_is}
use Rattle.pipeline.proofs.OfText.{OneSet}
use Rattle.poll_core.specs.Differs.{DiffersAt}
use Rattle.poll_core.specs.Found.{IsFound}
use Rattle.poll_core.specs.IsSession.{IsSession}
use Rattle.pipeline.specs.MadeOf.{HasRules, EndsWithRules}
use Rattle.pipeline.specs.Foreign.{IsLeastForeign}
use Rattle.poll_core.specs.OpenFaults.{IsOfText, HasOtherSettings, HasForeignState, HasShortOutput, IsRefused, no_reading, other_settings, foreign_state, short_output}
use Rattle.poll_core.specs.Remembers.{GoesOnFrom}
use Rattle.poll_core.specs.SessionParts.{checkpoint_of_session, rules_of_session, settings_of_session, journal_of_session, last_text}
use Rattle.poll_core.specs.declared.fault.OpenFault.{OpenFault}
use Rattle.poll_core.specs.declared.fault.OpenFault.TheVariants.{CheckpointBad, SettingsChanged, OutputShort}
use Rattle.poll_core.specs.declared.session.Session.{Session}
use Rattle.standing.specs.Eras.{Eras, last_era}
use Rattle.standing.specs.Rows.{Checkpoint, Row, IsRowAt, KeepStates}
use Rattle.standing.specs.Rules.{Rules}
use Rattle.standing.specs.Standing.{Found, nothing, damaged, found, Sound}

fine_at : (rules : Rules) (rows : List Row) (place : ℕ) (row : Row) → KeepStates rules rows → IsRowAt rows place row → rules.is_state row.state ≡ true
fine_at rules rows place row fine there =
    subst (λ (r : Row). IsTrue (rules.is_state r.state)) (get_or_from_slice_get rows place row row there) (fine place row (slice_get_within rows place row there))

pub none_foreign : (rules : Rules) (rows : List Row) (id : ℕ) → KeepStates rules rows → IsLeastForeign rules rows id → ⊥
none_foreign rules rows id fine least =
    let good = fine_at rules rows least.place least.row fine least.there in
    let bad = least.foreign in
    cc

one_least : (rules : Rules) (rows : List Row) (id other : ℕ) → IsLeastForeign rules rows id → IsLeastForeign rules rows other → id ≡ other
one_least rules rows id other first second =
    omega (arith, first.least second.place second.row second.there second.foreign, second.least first.place first.row first.there first.foreign, first.id_is, second.id_is)

pub same_saved : (image : Image DiskFile) (one other : Checkpoint) → HasCheckpoint (Some one) image → HasCheckpoint (Some other) image → other ≡ one
same_saved image one other has have = one_said image has.0 have.0 one other has.1 have.1

not_bad : (image : Image DiskFile) (at : ℕ) (saved : Checkpoint) → IsBadAt at image → HasCheckpoint (Some saved) image → ⊥
not_bad image at saved bad has = bad_no_journal image at has.0 saved bad has.1

not_other : (text : List ℕ) (image : Image DiskFile) (at : ℕ) (saved : Checkpoint) → HasOtherSettings text image at → IsOfText text image saved → ⊥
not_other text image at saved other of_text =
    not_same (last_text other.checkpoint.eras) text at other.differ
    (ap (λ (c : Checkpoint). last_text c.eras) (same_saved image saved other.checkpoint of_text.has other.has) ∙ of_text.settings)

module _ (one_set : OneSet) (text : List ℕ) (image : Image DiskFile) where
  -- by the rules of the text all rows of its checkpoint are fine, or not
  not_foreign : (rules : Rules) (saved : Checkpoint) (id : ℕ) → HasRules text rules → HasCheckpoint (Some saved) image → KeepStates rules saved.rows → HasForeignState text image id → ⊥
  not_foreign rules saved id rules_are has fine foreign =
      let same = same_saved image saved foreign.checkpoint has foreign.of_text.has in
      let alike = one_set text foreign.rules rules foreign.rules_are rules_are in
      let moved = subst (λ (c : Checkpoint). IsLeastForeign foreign.rules c.rows id) same foreign.foreign in
      none_foreign rules saved.rows id fine (subst (λ (r : Rules). IsLeastForeign r saved.rows id) alike moved)

  both_foreign : (id other : ℕ) → HasForeignState text image id → HasForeignState text image other → id ≡ other
  both_foreign id other first second =
      let same = same_saved image first.checkpoint second.checkpoint first.of_text.has second.of_text.has in
      let alike = one_set text second.rules first.rules second.rules_are first.rules_are in
      let moved = subst (λ (c : Checkpoint). IsLeastForeign second.rules c.rows other) same second.foreign in
      one_least first.rules first.checkpoint.rows id other first.foreign (subst (λ (r : Rules). IsLeastForeign r first.checkpoint.rows other) alike moved)

  both_other : (at place : ℕ) → HasOtherSettings text image at → HasOtherSettings text image place → at ≡ place
  both_other at place first second =
      let same = same_saved image first.checkpoint second.checkpoint first.has second.has in
      one_place (last_text first.checkpoint.eras) text at place first.differ (subst (λ (c : Checkpoint). DiffersAt (last_text c.eras) text place) same second.differ)

  short_foreign : (kept size id : ℕ) → HasShortOutput text image kept size → HasForeignState text image id → ⊥
  short_foreign kept size id short foreign = not_foreign short.rules short.checkpoint id short.rules_are short.of_text.has short.states foreign

  both_short : (kept size other_kept other_size : ℕ) → HasShortOutput text image kept size → HasShortOutput text image other_kept other_size → OutputShort kept size ≡ OutputShort other_kept other_size
  both_short kept size other_kept other_size first second =
      let same = same_saved image first.checkpoint second.checkpoint first.of_text.has second.of_text.has in
      let kept_is : kept ≡ other_kept = first.kept_is ∙ ap (λ (c : Checkpoint). c.output_length) (sym same) ∙ sym second.kept_is in
      let size_is : size ≡ other_size = first.size_is ∙ sym second.size_is in
      cc

  pub one_refusal : (one other : OpenFault) → IsRefused text image one → IsRefused text image other → one ≡ other
  one_refusal one other (no_reading at bad) (no_reading place worse) = ap (λ n. CheckpointBad n) (sym (one_bad image at place bad worse))
  one_refusal one other (no_reading at bad) (other_settings place differ) = absurd (not_bad image at differ.checkpoint bad differ.has)
  one_refusal one other (no_reading at bad) (foreign_state id foreign) = absurd (not_bad image at foreign.checkpoint bad foreign.of_text.has)
  one_refusal one other (no_reading at bad) (short_output kept size short) = absurd (not_bad image at short.checkpoint bad short.of_text.has)
  one_refusal one other (other_settings at differ) (no_reading place bad) = absurd (not_bad image place differ.checkpoint bad differ.has)
  one_refusal one other (other_settings at differ) (other_settings place differs) = ap (λ n. SettingsChanged n) (both_other at place differ differs)
  one_refusal one other (other_settings at differ) (foreign_state id foreign) = absurd (not_other text image at foreign.checkpoint differ foreign.of_text)
  one_refusal one other (other_settings at differ) (short_output kept size short) = absurd (not_other text image at short.checkpoint differ short.of_text)
  one_refusal one other (foreign_state id foreign) (no_reading place bad) = absurd (not_bad image place foreign.checkpoint bad foreign.of_text.has)
  one_refusal one other (foreign_state id foreign) (other_settings place differ) = absurd (not_other text image place foreign.checkpoint differ foreign.of_text)
  one_refusal one other (foreign_state id foreign) (foreign_state next stranger) = ap (λ n. CheckpointBad n) (both_foreign id next foreign stranger)
  one_refusal one other (foreign_state id foreign) (short_output kept size short) = absurd (short_foreign kept size id short foreign)
  one_refusal one other (short_output kept size short) (no_reading place bad) = absurd (not_bad image place short.checkpoint bad short.of_text.has)
  one_refusal one other (short_output kept size short) (other_settings place differ) = absurd (not_other text image place short.checkpoint differ short.of_text)
  one_refusal one other (short_output kept size short) (foreign_state id foreign) = absurd (short_foreign kept size id short foreign)
  one_refusal one other (short_output kept size short) (short_output more length shorter) = both_short kept size more length short shorter

  -- a checkpoint of the text with fine rows, of whose output enough is there
  never_refused : (rules : Rules) (saved : Checkpoint) (fault : OpenFault) → HasRules text rules → IsOfText text image saved → KeepStates rules saved.rows → saved.output_length ≤ length (image Output) → IsRefused text image fault → ⊥
  never_refused rules saved fault rules_are of_text fine enough (no_reading at bad) = not_bad image at saved bad of_text.has
  never_refused rules saved fault rules_are of_text fine enough (other_settings at differ) = not_other text image at saved differ of_text
  never_refused rules saved fault rules_are of_text fine enough (foreign_state id foreign) = not_foreign rules saved id rules_are of_text.has fine foreign
  never_refused rules saved fault rules_are of_text fine enough (short_output kept size short) =
      absurd (omega (arith, enough, short.short, short.kept_is, short.size_is, ap (λ (c : Checkpoint). c.output_length) (same_saved image saved short.checkpoint of_text.has short.of_text.has)))

  -- no slot is open
  none_refused : (fault : OpenFault) → HasCheckpoint None image → IsRefused text image fault → ⊥
  none_refused fault none (no_reading at bad) = bad_slot image at bad none
  none_refused fault none (other_settings at differ) = no_journal image differ.has.0 differ.checkpoint none differ.has.1
  none_refused fault none (foreign_state id foreign) = no_journal image foreign.of_text.has.0 foreign.checkpoint none foreign.of_text.has.1
  none_refused fault none (short_output kept size short) = no_journal image short.of_text.has.0 short.checkpoint none short.of_text.has.1

  going_on : (rules : Rules) (journal : Option Journal) (saved : Checkpoint) (fault : OpenFault) → HasMemory journal saved image → last_text saved.eras ≡ text → HasRules text rules → KeepStates rules saved.rows → saved.output_length ≤ length (image Output) → IsRefused text image fault → ⊥
  going_on rules None saved fault memory settings rules_are fine enough refused = none_refused fault memory.0 refused
  going_on rules (Some journal) saved fault memory settings rules_are fine enough refused =
      never_refused rules saved fault rules_are (record { has = (journal, memory); settings = settings }) fine enough refused

pub not_refused : (one_set : OneSet) (text : List ℕ) (image : Image DiskFile) (session : Session) (fault : OpenFault) → IsSession session → settings_of_session session ≡ text → GoesOnFrom session image → IsRefused text image fault → ⊥
not_refused one_set text image session fault is settings goes_on refused =
    let own : HasRules (settings_of_session session) (rules_of_session session) = (session.pipeline, is.made, refl) in
    going_on one_set text image (rules_of_session session) (journal_of_session session) (checkpoint_of_session session) fault goes_on.memory settings
    (subst (λ (t : List ℕ). HasRules t (rules_of_session session)) settings own) is.states goes_on.long_enough refused

-- it is refused only where other settings are given
changed_only : (one_set : OneSet) (own text : List ℕ) (rules : Rules) (image : Image DiskFile) (saved : Checkpoint) (fault : OpenFault)
    → HasRules own rules → HasCheckpoint (Some saved) image → last_text saved.eras ≡ own → KeepStates rules saved.rows → saved.output_length ≤ length (image Output)
    → IsRefused text image fault → (at : ℕ) × (fault ≡ SettingsChanged at) × DiffersAt own text at
changed_only one_set own text rules image saved fault own_rules has settings fine enough (no_reading at bad) = absurd (not_bad image at saved bad has)
changed_only one_set own text rules image saved fault own_rules has settings fine enough (other_settings at differ) =
    let own_is : last_text differ.checkpoint.eras ≡ own = ap (λ (c : Checkpoint). last_text c.eras) (same_saved image saved differ.checkpoint has differ.has) ∙ settings in
    (at, refl, subst (λ (t : List ℕ). DiffersAt t text at) own_is differ.differ)
changed_only one_set own text rules image saved fault own_rules has settings fine enough (foreign_state id foreign) =
    let own_is : own ≡ text = sym settings ∙ ap (λ (c : Checkpoint). last_text c.eras) (sym (same_saved image saved foreign.checkpoint has foreign.of_text.has)) ∙ foreign.of_text.settings in
    let text_rules : HasRules text rules = subst (λ (t : List ℕ). HasRules t rules) own_is own_rules in
    absurd (not_foreign one_set text image rules saved id text_rules has fine foreign)
changed_only one_set own text rules image saved fault own_rules has settings fine enough (short_output kept size short) =
    absurd (omega (arith, enough, short.short, short.kept_is, short.size_is, ap (λ (c : Checkpoint). c.output_length) (same_saved image saved short.checkpoint has short.of_text.has)))

-- what refuses an image that is sound by its own eras
pub only_changed : (one_set : OneSet) (eras : Eras) (text : List ℕ) (image : Image DiskFile) (there : Found) (fault : OpenFault)
    → EndsWithRules eras → IsFound image there → Sound eras there (image Output) → IsRefused text image fault
    → (at : ℕ) × (fault ≡ SettingsChanged at) × DiffersAt (last_era eras).settings text at
only_changed one_set eras text image nothing fault ends has sound refused = absurd (none_refused one_set text image fault has refused)
only_changed one_set eras text image damaged fault ends has sound refused = absurd sound
only_changed one_set eras text image (found checkpoint) fault ends has sound refused =
    let settings : last_text checkpoint.eras ≡ (last_era eras).settings = ap last_text sound.texts ∙ last_is eras in
    changed_only one_set (last_era eras).settings text (last_era eras) image checkpoint fault ends has settings sound.states sound.long_enough refused
