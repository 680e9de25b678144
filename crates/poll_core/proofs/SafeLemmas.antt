-- Whatever a poll leaves of a disk, it is sound by eras that end with the session's, and keeps what was kept.
use Rattle.std.proofs.Common.{◌≡◌, ℕ, ◌+◌, ◌≤◌, List, ◌++◌, length, take, Option, None, Some, refl, sym, ap, subst, ◌∙◌, arith, inl, inr}
use Rattle.std.proofs.lemmas.List.{take_all, length-append}
use Rattle.checkpoint_journal.specs.Memory.{HasMemory}
use Rattle.checkpoint_journal.specs.declared.journal.Journal.{Journal}
use Rattle.checkpoint_store.specs.Limits.{newest}
use Rattle.checkpoint_store.specs.Rules.{beside_of}
use Rattle.file_pass.specs.Full.{lines_text}
use Rattle.outside.proofs.Tearing.{keeps_front_take}
use Rattle.outside.specs.Image.{Image}
use Rattle.outside.specs.declared.disk.DiskFile.{DiskFile}
use Rattle.outside.specs.declared.disk.DiskFile.TheVariants.{Output}
use Rattle.poll_core.proofs.EraLemmas.{eras_ending, ending_last, ending_texts}
use Rattle.poll_core.proofs.ImageLemmas.{one_found}
use Rattle.poll_core.proofs.SessionLemmas.{kept_found, left_goes_on, session_sound}
use Rattle.checkpoint_journal.proofs.RowLemmas.{rows_in_order}
use Rattle.poll_core.specs.Found.{IsFound}
use Rattle.poll_core.specs.IsSession.{IsSession}
use Rattle.poll_core.specs.Polled.{ComesAfter, Gains, Stays, Steps}
use Rattle.poll_core.specs.Remembers.{IsLeftBy}
use Rattle.poll_core.specs.SessionParts.{checkpoint_of_session, rules_of_session, journal_of_session, kept_of}
use Rattle.poll_core.specs.declared.session.Session.{Session}
use Rattle.standing.specs.Eras.{Eras, last_era, texts_of}
use Rattle.standing.specs.Rows.{Checkpoint, KeepStates}
use Rattle.standing.specs.Rules.{Rules}
use Rattle.standing.specs.Standing.{Found, Sound, nothing, found, kept}
use Rattle.standing.specs.Stands.{IsSound}
use Rattle.standing.specs.Marks.{Mark}

-- the eras of a session, of which the last has its rules
record OwnEras (session : Session) : Type 0 where
  eras : Eras
  texts_are : session.eras ≡ texts_of eras
  last : last_era eras ≡ rules_of_session session

own_eras : (session : Session) → IsSession session → OwnEras session
own_eras session is = record {
  eras = eras_ending (rules_of_session session) session.eras;
  texts_are = ending_texts (rules_of_session session) session.eras is.lawful.eras.some refl;
  last = ending_last (rules_of_session session) session.eras;
}

-- the image is sound by some eras
pub record IsSoundByEras (image : Image DiskFile) : Type 0 where
  pub there : Found
  pub found : IsFound image there
  pub eras : Eras
  pub sound : Sound eras there (image Output)

comes_sound : (session : Session) (next : Checkpoint) (added : List Mark) (file : List ℕ) → (own : OwnEras session) → ComesAfter session next added → next.output_length ≤ length file → IsSound own.eras next file
comes_sound session next added file own comes enough =
    record {
      texts = comes.eras ∙ own.texts_are;
      states = subst (λ (rules : Rules). KeepStates rules next.rows) (sym own.last) comes.states;
      ids = record { ids = rows_in_order (beside_of newest next.eras next.output_length) next.rows comes.lawful.rows; next = sym comes.lawful.count };
      long_enough = enough;
    }

memory_sound : (eras : Eras) → (journal : Option Journal) (saved : Checkpoint) (image : Image DiskFile) → HasMemory journal saved image → IsSound eras saved (image Output) → IsSoundByEras image
memory_sound eras None saved image memory sound = record { there = nothing; found = memory.0; eras = eras; sound = tt }
memory_sound eras (Some journal) saved image memory sound = record { there = found saved; found = (journal, memory); eras = eras; sound = sound }

pub stays_long : (session : Session) (old new : Image DiskFile) → IsLeftBy session old → Stays session old new → kept_of session ≤ length (new Output)
stays_long session old new left stays = let long = stays.front.no_shorter in omega (arith, left.output, long)

pub gains_long : (session : Session) (next : Checkpoint) (added : List Mark) (old new : Image DiskFile) → ComesAfter session next added → IsLeftBy session old → Gains session next added old new → length (new Output) ≡ next.output_length
gains_long session next added old new comes left gains =
    ap length gains.output ∙ length-append (old Output) (lines_text added) ∙ ap (λ (n : ℕ). n + length (lines_text added)) left.output ∙ sym comes.output_length

pub stays_sound_by : (session : Session) (old new : Image DiskFile) → IsSession session → IsLeftBy session old → Stays session old new → IsSoundByEras new
stays_sound_by session old new is left stays =
    let own = own_eras session is in
    memory_sound own.eras (journal_of_session session) (checkpoint_of_session session) new stays.memory
    (session_sound session (new Output) is (stays_long session old new left stays) own.eras own.texts_are own.last)

pub steps_sound_by : (session : Session) (next : Checkpoint) (added : List Mark) (old new : Image DiskFile) → IsSession session → ComesAfter session next added → IsLeftBy session old → Steps session next added old new → IsSoundByEras new
steps_sound_by session next added old new is comes left steps = elim steps [
  | inl stays ↦ stays_sound_by session old new is left stays
  | inr gains ↦ record {
    there = found next;
    found = (gains.memory.0, gains.memory.1);
    eras = (own_eras session is).eras;
    sound = comes_sound session next added (new Output) (own_eras session is) comes (omega (arith, gains_long session next added old new comes left gains));
  }
]

-- ---- what is kept

-- what an image keeps is what the session remembers of it
kept_by_session : (session : Session) (image : Image DiskFile) (there : Found) → HasMemory (journal_of_session session) (checkpoint_of_session session) image → IsFound image there → kept there (image Output) ≡ take (kept_of session) (image Output)
kept_by_session session image there memory has = kept_found (journal_of_session session) (checkpoint_of_session session) image there memory has

kept_before : (session : Session) (old : Image DiskFile) (there : Found) → IsLeftBy session old → IsFound old there → kept there (old Output) ≡ old Output
kept_before session old there left has =
    kept_by_session session old there (left_goes_on session old left).memory has
    ∙ take_all (kept_of session) (old Output) (omega (arith, left.output))

pub stays_kept : (session : Session) (old new : Image DiskFile) (there after : Found) → IsLeftBy session old → Stays session old new → IsFound old there → IsFound new after → kept after (new Output) ≡ kept there (old Output)
stays_kept session old new there after left stays has have =
    kept_by_session session new after stays.memory have
    ∙ keeps_front_take (kept_of session) (old Output) (new Output) (omega (arith, left.output)) stays.front
    ∙ take_all (kept_of session) (old Output) (omega (arith, left.output))
    ∙ sym (kept_before session old there left has)

pub gains_kept : (session : Session) (next : Checkpoint) (added : List Mark) (old new : Image DiskFile) (there after : Found) → ComesAfter session next added → IsLeftBy session old → Gains session next added old new → IsFound old there → IsFound new after
    → kept after (new Output) ≡ kept there (old Output) ++ lines_text added
gains_kept session next added old new there after comes left gains has have =
    let one : after ≡ found next = one_found new after (found next) have (gains.memory.0, gains.memory.1) in
    ap (λ (f : Found). kept f (new Output)) one
    ∙ take_all next.output_length (new Output) (omega (arith, gains_long session next added old new comes left gains))
    ∙ gains.output
    ∙ ap (λ (bytes : List ℕ). bytes ++ lines_text added) (sym (kept_before session old there left has))
