-- What an image may have come to, call by call.
use Rattle.std.proofs.Common.{◌≡◌, ℕ, ◌+◌, ◌≤◌, ◌<◌, List, Bool, IsTrue, Option, Some, None, refl, subst, ◌∙◌, arith, inl, inr}
use Rattle.checkpoint_journal.specs.JournalOf.{log_of, HasJournal}
use Rattle.checkpoint_journal.specs.Memory.{EndsWithMemory, HasMemory}
use Rattle.checkpoint_journal.specs.Next.{HasNext}
use Rattle.checkpoint_journal.specs.Written.{IsWorn}
use Rattle.checkpoint_journal.specs.declared.journal.Journal.{Journal}
use Rattle.checkpoint_store.specs.declared.Checkpoint.{Checkpoint}
use Rattle.lifetimes.specs.OneEra.{IsSoundBy, one_era}
use Rattle.lifetimes.specs.Inner.Past.{Past, IsLeftAt, IsOpened}
use Rattle.lifetimes.specs.Whole.{TakesWhole}
use Rattle.outside.specs.Image.{Image}
use Rattle.outside.specs.World.{History}
use Rattle.outside.specs.declared.disk.DiskFile.{DiskFile}
use Rattle.outside.specs.declared.disk.DiskFile.TheVariants.{Output}
use Rattle.poll_core.proofs.ImageLemmas.{found_kept, sequence_kept, sound_still, standing_still, one_found, one_sequence}
use Rattle.poll_core.proofs.SafeLemmas.{IsSoundByEras, stays_sound_by, steps_sound_by}
use Rattle.poll_core.proofs.SessionLemmas.{left_goes_on, found_first}
use Rattle.poll_core.specs.Found.{IsFound}
use Rattle.poll_core.specs.IsSession.{IsSession}
use Rattle.poll_core.specs.Polled.{AreErasIn, IsStanding, Stays, Steps, ComesAfter}
use Rattle.poll_core.specs.Remembers.{IsLeftBy}
use Rattle.poll_core.specs.Reopens.{Reopens}
use Rattle.poll_core.specs.Sequence.{HasSequence, no_slot, of_log}
use Rattle.poll_core.specs.SessionParts.{checkpoint_of_session, journal_of_session}
use Rattle.poll_core.specs.declared.session.Session.{Session}
use Rattle.slot_store.specs.ChosenSlot.{chosen_slot}
use Rattle.standing.proofs.MomentLemmas.{apart_before}
use Rattle.standing.proofs.StandsLemmas.{standing_lasts}
use Rattle.standing.specs.Eras.{Eras, texts_of}
use Rattle.standing.specs.Marks.{Mark}
use Rattle.standing.specs.Moments.{IsLater}
use Rattle.standing.specs.Rows.{KeepStates}
use Rattle.standing.specs.Rules.{Rules}
use Rattle.standing.specs.Standing.{Found, nothing, damaged, found, Sound, Standing}
use Rattle.standing.specs.Stands.{IsSound}
use Rattle.poll_core.proofs.StandingLemmas.{lasts}

-- ---- sequence numbers

journal_number : (image : Image DiskFile) (journal : Journal) (saved : Checkpoint) → HasJournal journal saved image → HasSequence image journal.sequence
journal_number image journal saved has = of_log (log_of journal) has.base has.records has.log_is

number_of_found : (eras : Eras) (image : Image DiskFile) (there : Found) → IsFound image there → Sound eras there (image Output) → (sequence : ℕ) × HasSequence image sequence
number_of_found eras image nothing has sound = (0, no_slot has)
number_of_found eras image damaged has sound = absurd sound
number_of_found eras image (found checkpoint) has sound = (has.0.sequence, journal_number image has.0 checkpoint has.1)

-- an image that is sound has a sequence number
number_of : (rules : Rules) (image : Image DiskFile) → IsSoundBy rules image → (sequence : ℕ) × HasSequence image sequence
number_of rules image is = number_of_found (one_era rules) image is.there is.found is.sound

-- an image has no greater number than this
abbrev pub NumberedBy : ℕ → Image DiskFile → Type 0
NumberedBy most image = (sequence : ℕ) → HasSequence image sequence → sequence ≤ most

pub numbered_by : (image : Image DiskFile) (own most : ℕ) → HasSequence image own → own ≤ most → NumberedBy most image
numbered_by image own most has within = λ sequence have. subst (λ (n : ℕ). n ≤ most) (one_sequence image own sequence has have) within

-- ---- openings

pub left_reopened : (rules : Rules) (past : Past) (old new : Image DiskFile) → Reopens old new → IsLeftAt rules past old → IsLeftAt rules past new
left_reopened rules past old new reopens left =
    let was = number_of rules old left.sound in
    record {
      sound = record { there = left.sound.there; found = found_kept reopens.logs left.sound.there left.sound.found; sound = sound_still (one_era rules) old new left.sound.there reopens left.sound.found left.sound.sound };
      standing = λ takes.
          let stood = left.standing takes in
          record {
            there = stood.there;
            found = found_kept reopens.logs stood.there stood.found;
            eras = stood.eras;
            are = stood.are;
            stands = standing_still stood.eras past.history old new stood.there reopens stood.found stood.stands;
          };
      numbered = numbered_by new was.0 past.polls (sequence_kept reopens.logs was.0 was.1) (left.numbered was.0 was.1);
      none_open = λ early. reopens.logs.no_slot (left.none_open early);
    }

-- ---- the world goes on

-- Where lines are taken whole they were so before.
pub whole_before : (rules : Rules) (old new : History) → IsLater old new → TakesWhole rules new → TakesWhole rules old
whole_before rules old new later takes = record { never = takes.never; apart = apart_before rules.front_size old new later takes.apart }

pub left_later : (rules : Rules) (old new : History) (polls : ℕ) (early : Bool) (image : Image DiskFile) → IsLater old new
    → IsLeftAt rules (record { history = old; polls = polls; early = early }) image → IsLeftAt rules (record { history = new; polls = polls; early = early }) image
left_later rules old new polls early image later left = record {
  sound = left.sound;
  standing = λ takes. lasts old new image later (left.standing (whole_before rules old new later takes));
  numbered = left.numbered;
  none_open = left.none_open;
}

-- ---- polls

stays_numbered : (journal : Option Journal) (saved : Checkpoint) (old new : Image DiskFile) (polls : ℕ) → EndsWithMemory journal saved old → HasMemory journal saved new → NumberedBy polls old → NumberedBy (polls + 1) new
stays_numbered None saved old new polls ends memory before = numbered_by new 0 (polls + 1) (no_slot memory.0) (omega arith)
stays_numbered (Some journal) saved old new polls ends memory before =
    numbered_by new journal.sequence (polls + 1) (journal_number new journal saved memory) (omega (arith, before journal.sequence (journal_number old journal saved ends.journal_is)))

gains_numbered : (journal : Option Journal) (saved after : Checkpoint) (old new : Image DiskFile) (polls : ℕ) → EndsWithMemory journal saved old → HasNext journal after new → NumberedBy polls old → NumberedBy (polls + 1) new
gains_numbered None saved after old new polls ends next before = numbered_by new next.0.sequence (polls + 1) (journal_number new next.0 after next.1) (omega (arith, next.2))
gains_numbered (Some journal) saved after old new polls ends next before =
    numbered_by new next.0.sequence (polls + 1) (journal_number new next.0 after next.1) (omega (arith, next.2, before journal.sequence (journal_number old journal saved ends.journal_is)))

pub worn_never : (journal : Option Journal) (saved : Checkpoint) (image : Image DiskFile) (polls : ℕ) → EndsWithMemory journal saved image → NumberedBy polls image → polls < 18446744073709551615 → IsWorn journal → ⊥
worn_never None saved image polls ends within few worn = worn
worn_never (Some journal) saved image polls ends within few worn = omega (arith, within journal.sequence (journal_number image journal saved ends.journal_is), few, worn)

-- A session without a journal opens no slot where it stays.
stays_closed : (session : Session) (old new : Image DiskFile) → IsLeftBy session old → Stays session old new → chosen_slot old ≡ None → chosen_slot new ≡ None
stays_closed session old new left stays closed =
    let none : journal_of_session session ≡ None = found_first (journal_of_session session) (checkpoint_of_session session) old nothing (left_goes_on session old left).memory closed refl in
    let memory : HasMemory None (checkpoint_of_session session) new = subst (λ (journal : Option Journal). HasMemory journal (checkpoint_of_session session) new) none stays.memory in
    memory.0

-- An image that is sound by some eras, with this checkpoint, which is of these settings alone, is sound by them.
sound_by : (rules : Rules) (image : Image DiskFile) (checkpoint : Checkpoint) → IsSoundByEras image → IsFound image (found checkpoint) → checkpoint.eras ≡ texts_of (one_era rules) → KeepStates rules checkpoint.rows → IsSoundBy rules image
sound_by rules image checkpoint sound has texts states =
    let same : sound.there ≡ found checkpoint = one_found image sound.there (found checkpoint) sound.found has in
    let own : IsSound sound.eras checkpoint (image Output) = subst (λ (f : Found). Sound sound.eras f (image Output)) same sound.sound in
    record { there = found checkpoint; found = has; sound = record { texts = texts; states = states; ids = own.ids; long_enough = own.long_enough } }

memory_sound_by : (rules : Rules) (journal : Option Journal) (saved : Checkpoint) (image : Image DiskFile) → IsSoundByEras image → HasMemory journal saved image → saved.eras ≡ texts_of (one_era rules) → KeepStates rules saved.rows → IsSoundBy rules image
memory_sound_by rules None saved image sound memory texts states = record { there = nothing; found = memory.0; sound = tt }
memory_sound_by rules (Some journal) saved image sound memory texts states = sound_by rules image saved sound (journal, memory) texts states

-- what a poll leaves of an image, but for what it stands for
pub record Kept (rules : Rules) (polls : ℕ) (image : Image DiskFile) : Type 0 where
  pub sound : IsSoundBy rules image
  pub numbered : NumberedBy polls image

module _ (session : Session) (is : IsSession session) (rules : Rules) (opened : IsOpened rules session) (past : Past) (old new : Image DiskFile) (left : IsLeftBy session old) (was : IsLeftAt rules past old) where
  pub kept_by_stays : Stays session old new → Kept rules (past.polls + 1) new
  kept_by_stays stays = record {
    sound = memory_sound_by rules (journal_of_session session) (checkpoint_of_session session) new (stays_sound_by session old new is left stays) stays.memory opened.eras
        (subst (λ (r : Rules). KeepStates r session.tracker) opened.rules_are is.states);
    numbered = stays_numbered (journal_of_session session) (checkpoint_of_session session) old new past.polls left.memory stays.memory was.numbered;
  }

  pub kept_by_steps : (after : Checkpoint) (added : List Mark) → ComesAfter session after added → Steps session after added old new → Kept rules (past.polls + 1) new
  kept_by_steps after added comes (inl stays) = kept_by_stays stays
  kept_by_steps after added comes (inr gains) = record {
    sound = sound_by rules new after (steps_sound_by session after added old new is comes left (inr gains)) (gains.memory.0, gains.memory.1) (comes.eras ∙ opened.eras)
        (subst (λ (r : Rules). KeepStates r after.rows) opened.rules_are comes.states);
    numbered = gains_numbered (journal_of_session session) (checkpoint_of_session session) after old new past.polls left.memory gains.memory was.numbered;
  }

  pub closed_by_stays : IsTrue past.early → Stays session old new → chosen_slot new ≡ None
  closed_by_stays early stays = stays_closed session old new left stays (was.none_open early)
