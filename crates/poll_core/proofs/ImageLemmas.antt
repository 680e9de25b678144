-- What an image has is one, and opening keeps it.
use Rattle.std.proofs.Common.{◌≡◌, ℕ, ◌≤◌, List, length, take, Option, Some, None, refl, sym, ap, ◌∙◌, arith, inl, inr}
use Rattle.std.proofs.lemmas.List.{take_all, length-take, length-take-le}
use Rattle.std.specs.Prelude.{◌⊎◌}
use Rattle.checkpoint_journal.proofs.JournalLaws.{one_said, bad_no_journal, bad_slot}
use Rattle.checkpoint_journal.specs.JournalOf.{log_of, HasJournal, HasCheckpoint, IsBadAt}
use Rattle.checkpoint_journal.specs.declared.journal.Journal.{Journal}
use Rattle.outside.specs.Image.{Image}
use Rattle.outside.specs.World.{History}
use Rattle.outside.specs.declared.disk.DiskFile.{DiskFile}
use Rattle.outside.specs.declared.disk.DiskFile.TheVariants.{Output}
use Rattle.poll_core.specs.Found.{IsFound}
use Rattle.poll_core.specs.Reopens.{KeepsLogs, Keeps, kept_by, Reopens}
use Rattle.poll_core.specs.Sequence.{HasSequence, no_slot, of_log}
use Rattle.record_log.proofs.LogLaws.{one_log}
use Rattle.record_log.specs.LogOf.{HasLog}
use Rattle.record_log.specs.declared.log.Log.{Log}
use Rattle.slot_store.specs.ChosenSlot.{chosen_slot}
use Rattle.standing.specs.Eras.{Eras}
use Rattle.standing.specs.Rows.{Checkpoint}
use Rattle.standing.specs.Standing.{Found, nothing, damaged, found, kept, Sound, Standing}

-- ---- an image has one thing

pub no_log : (image : Image DiskFile) (log : Log) (base : List ℕ) (records : List (List ℕ)) → chosen_slot image ≡ None → HasLog log base records image → ⊥
no_log image log base records none has = let some = has.slot in cc

pub no_journal : (image : Image DiskFile) (journal : Journal) (checkpoint : Checkpoint) → chosen_slot image ≡ None → HasJournal journal checkpoint image → ⊥
no_journal image journal checkpoint none has = no_log image (log_of journal) has.base has.records none has.log_is

pub one_found : (image : Image DiskFile) (one other : Found) → IsFound image one → IsFound image other → one ≡ other
one_found image nothing nothing has have = refl
one_found image nothing damaged has have = absurd (bad_slot image have.0 have.1 has)
one_found image nothing (found checkpoint) has have = absurd (no_journal image have.0 checkpoint has have.1)
one_found image damaged nothing has have = absurd (bad_slot image has.0 has.1 have)
one_found image damaged damaged has have = refl
one_found image damaged (found checkpoint) has have = absurd (bad_no_journal image has.0 have.0 checkpoint has.1 have.1)
one_found image (found checkpoint) nothing has have = absurd (no_journal image has.0 checkpoint have has.1)
one_found image (found checkpoint) damaged has have = absurd (bad_no_journal image have.0 has.0 checkpoint have.1 has.1)
one_found image (found checkpoint) (found other) has have =
    ap (λ (c : Checkpoint). found c) (sym (one_said image has.0 have.0 checkpoint other has.1 have.1))

pub one_sequence : (image : Image DiskFile) (one other : ℕ) → HasSequence image one → HasSequence image other → one ≡ other
one_sequence image one other (no_slot none) (no_slot none_too) = refl
one_sequence image one other (no_slot none) (of_log log base records has) = absurd (no_log image log base records none has)
one_sequence image one other (of_log log base records has) (no_slot none) = absurd (no_log image log base records none has)
one_sequence image one other (of_log log base records has) (of_log twin twin_base twin_records have) =
    ap (λ (l : Log). l.sequence) (sym (one_log image log twin base twin_base records twin_records has have).log_is)

-- ---- what goes with the log

module _ {old new : Image DiskFile} (keeps : KeepsLogs old new) where
  pub journal_kept : (journal : Journal) (checkpoint : Checkpoint) → HasJournal journal checkpoint old → HasJournal journal checkpoint new
  journal_kept journal checkpoint has = record {
    base = has.base;
    records = has.records;
    log_is = keeps.log_is (log_of journal) has.base has.records has.log_is;
    says = has.says;
  }

  pub checkpoint_kept : (checkpoint : Option Checkpoint) → HasCheckpoint checkpoint old → HasCheckpoint checkpoint new
  checkpoint_kept None has = keeps.no_slot has
  checkpoint_kept (Some checkpoint) has = (has.0, journal_kept has.0 checkpoint has.1)

  pub bad_kept : (at : ℕ) → IsBadAt at old → IsBadAt at new
  bad_kept at bad = record {
    log = bad.log;
    base = bad.base;
    records = bad.records;
    log_is = keeps.log_is bad.log bad.base bad.records bad.log_is;
    fails = bad.fails;
  }

  pub found_kept : (there : Found) → IsFound old there → IsFound new there
  found_kept nothing has = keeps.no_slot has
  found_kept damaged has = (has.0, bad_kept has.0 has.1)
  found_kept (found checkpoint) has = checkpoint_kept (Some checkpoint) has

  pub sequence_kept : (sequence : ℕ) → HasSequence old sequence → HasSequence new sequence
  sequence_kept sequence (no_slot none) = no_slot (keeps.no_slot none)
  sequence_kept sequence (of_log log base records has) = of_log log base records (keeps.log_is log base records has)

-- ---- the output

pub keeps_one : (image : Image DiskFile) (size : ℕ) (saved : Checkpoint) → Keeps size image → HasCheckpoint (Some saved) image → size ≡ saved.output_length
keeps_one image size saved keeps has = by keeps.0 keeps.1 keeps.2
  where
    by : (checkpoint : Option Checkpoint) → HasCheckpoint checkpoint image → size ≡ kept_by checkpoint → size ≡ saved.output_length
    by None none is = absurd (no_journal image has.0 saved none has.1)
    by (Some other) have is = is ∙ ap (λ (c : Checkpoint). c.output_length) (one_said image has.0 have.0 saved other has.1 have.1)

-- the output is what it was, or what the checkpoint keeps of it
pub output_of : (old new : Image DiskFile) (checkpoint : Checkpoint) → Reopens old new → IsFound old (found checkpoint)
    → (new Output ≡ old Output) ⊎ (new Output ≡ take checkpoint.output_length (old Output))
output_of old new checkpoint reopens has = elim reopens.output [
  | inl same ↦ inl same
  | inr cut ↦ inr (cut.2 ∙ ap (λ n. take n (old Output)) (keeps_one old cut.0 checkpoint cut.1 has))
]

take_twice : (n : ℕ) (file : List ℕ) → take n (take n file) ≡ take n file
take_twice n file = take_all n (take n file) (omega (arith, length-take n file))

pub kept_stays : (old new : Image DiskFile) (there : Found) → Reopens old new → IsFound old there → kept there (new Output) ≡ kept there (old Output)
kept_stays old new nothing reopens has = refl
kept_stays old new damaged reopens has = refl
kept_stays old new (found checkpoint) reopens has =
    let n = checkpoint.output_length in
    elim (output_of old new checkpoint reopens has) [
      | inl same ↦ ap (λ file. take n file) same
      | inr cut ↦ ap (λ file. take n file) cut ∙ take_twice n (old Output)
    ]

pub long_enough_still : (old new : Image DiskFile) (checkpoint : Checkpoint) → Reopens old new → IsFound old (found checkpoint)
    → checkpoint.output_length ≤ length (old Output) → checkpoint.output_length ≤ length (new Output)
long_enough_still old new checkpoint reopens has within =
    elim (output_of old new checkpoint reopens has) [
      | inl same ↦ omega (arith, ap length same)
      | inr cut ↦ omega (arith, ap length cut, length-take-le checkpoint.output_length (old Output) within)
    ]

pub sound_still : (eras : Eras) (old new : Image DiskFile) (there : Found) → Reopens old new → IsFound old there → Sound eras there (old Output) → Sound eras there (new Output)
sound_still eras old new nothing reopens has sound = tt
sound_still eras old new damaged reopens has sound = absurd sound
sound_still eras old new (found checkpoint) reopens has sound = record {
  texts = sound.texts;
  states = sound.states;
  ids = sound.ids;
  long_enough = long_enough_still old new checkpoint reopens has sound.long_enough;
}

pub standing_still : (eras : Eras) (history : History) (old new : Image DiskFile) (there : Found) → Reopens old new → IsFound old there → Standing eras history there (old Output) → Standing eras history there (new Output)
standing_still eras history old new nothing reopens has stands = tt
standing_still eras history old new damaged reopens has stands = absurd stands
standing_still eras history old new (found checkpoint) reopens has stands = record {
  sound = sound_still eras old new (found checkpoint) reopens has stands.sound;
  stands = record {
    marks = stands.stands.marks;
    whole_lines = kept_stays old new (found checkpoint) reopens has ∙ stands.stands.whole_lines;
    lines_stand = stands.stands.lines_stand;
  };
  times = stands.times;
}
