-- A session is sound.
use Rattle.std.proofs.Common.{◌≡◌, ℕ, suc, ◌+◌, ◌-◌, ◌<◌, ◌≤◌, ◌^◌, List, [], ◌∷◌, length, take, Option, None, refl, sym, ap, ◌∙◌, subst, arith, Some}
use Rattle.std.proofs.lemmas.List.Elements.{All-cons, All-nil}
use Rattle.std.proofs.lemmas.Option.{none-some, same_Some}
use Rattle.std.specs.Prelude.{IfSome, slice_get}
use Rattle.checkpoint_journal.specs.Memory.{HasMemory, IsEmpty}
use Rattle.checkpoint_journal.specs.Short.{IsShort}
use Rattle.checkpoint_journal.specs.declared.journal.Journal.{Journal}
use Rattle.checkpoint_store.specs.Rules.{AreEras, IsCheckpoint, KeepRules, beside_of}
use Rattle.checkpoint_store.specs.Limits.{newest, output_limit}
use Rattle.poll_core.proofs.MakingLemmas.{short_text}
use Rattle.pipeline.specs.MadeOf.{IsMadeOf}
use Rattle.outside.specs.Image.{Image}
use Rattle.outside.specs.declared.disk.DiskFile.{DiskFile}
use Rattle.outside.specs.declared.disk.DiskFile.TheVariants.{Output}
use Rattle.poll_core.proofs.DiskLemmas.{ends_goes_on}
use Rattle.checkpoint_journal.proofs.RowLemmas.{rows_in_order}
use Rattle.poll_core.specs.IsSession.{IsSession}
use Rattle.poll_core.specs.Remembers.{GoesOnFrom, IsLeftBy}
use Rattle.poll_core.specs.SessionParts.{checkpoint_of_session, rules_of_session, journal_of_session, kept_of, last_text}
use Rattle.poll_core.specs.declared.session.Session.{Session}
use Rattle.standing.specs.Eras.{Eras, last_era, texts_of}
use Rattle.standing.specs.Rows.{Row, Checkpoint, no_checkpoint, KeepStates}
use Rattle.standing.specs.Stands.{IsSound}
use Rattle.checkpoint_journal.proofs.JournalLaws.{one_said, bad_no_journal, bad_slot}
use Rattle.poll_core.proofs.ImageLemmas.{no_journal}
use Rattle.poll_core.specs.Found.{IsFound}
use Rattle.standing.specs.Rules.{Rules}
use Rattle.standing.specs.Standing.{Found, nothing, damaged, found, kept, checkpoint_of}

pub session_sound : (session : Session) (file : List ℕ) → IsSession session → kept_of session ≤ length file → (eras : Eras) → session.eras ≡ texts_of eras → last_era eras ≡ rules_of_session session → IsSound eras (checkpoint_of_session session) file
session_sound session file is enough eras texts_are last =
    record {
      texts = texts_are;
      states = subst (λ (rules : Rules). KeepStates rules session.tracker) (sym last) is.states;
      ids = record { ids = rows_in_order (beside_of newest session.eras session.kept) session.tracker is.lawful.rows; next = refl };
      long_enough = enough;
    }

pub left_goes_on : (session : Session) (image : Image DiskFile) → IsLeftBy session image → GoesOnFrom session image
left_goes_on session image by = record {
  memory = ends_goes_on (journal_of_session session) (checkpoint_of_session session) image by.memory;
  long_enough = omega (arith, by.output);
}

-- ---- of nothing

-- the session of one text that remembers nothing
pub record IsNew (text : List ℕ) (session : Session) : Type 0 where
  pub eras : session.eras ≡ text ∷ []
  pub journal : session.journal ≡ None
  pub kept : session.kept ≡ 0
  pub observed : session.observed ≡ 0
  pub time : session.time ≡ 0
  pub rows : session.tracker ≡ []

one_text : (text : List ℕ) → length text < 2 ^ 32 → AreEras newest (text ∷ [])
one_text text short = record {
  of_version = λ old. absurd (omega (arith, old));
  some = omega arith;
  few = omega arith;
  short = All-cons (λ (t : List ℕ). length t < 2 ^ 32) text [] short (All-nil (λ (t : List ℕ). length t < 2 ^ 32));
}

empty_lawful : (text : List ℕ) (session : Session) → IsMadeOf text session.pipeline → IsNew text session → IsCheckpoint newest (checkpoint_of_session session)
empty_lawful text session made new =
    let short = short_text text (session.pipeline.settings) made.said in
    let none : length session.tracker ≡ 0 = ap length new.rows in
    record {
      eras = subst (λ (eras : List (List ℕ)). AreEras newest eras) (sym new.eras) (one_text text (omega (arith, short)));
      output_length = omega (arith, new.kept);
      observed = record { of_version = λ old. absurd (omega (arith, old)); told = λ _. (omega arith, omega (arith, new.observed)) };
      next_id = (omega arith, omega (arith, none));
      count = refl;
      rows = subst (λ (rows : List Row). KeepRules (beside_of newest session.eras session.kept) 1 rows) (sym new.rows) tt;
    }

pub empty_session : (text : List ℕ) (session : Session) → IsMadeOf text session.pipeline → session.limit ≤ output_limit → IsNew text session → IsSession session
empty_session text session made limit new = record {
  made = subst (λ (t : List ℕ). IsMadeOf t session.pipeline) (sym (ap last_text new.eras)) made;
  one_era = λ _. ap length new.eras;
  limit = limit;
  lawful = empty_lawful text session made new;
  states = subst (λ (rows : List Row). KeepStates (rules_of_session session) rows) (sym new.rows) (λ k d within. absurd (omega (arith, within)));
  journal = subst (λ (j : Option Journal). IfSome j IsShort) (sym new.journal) tt;
  time = (omega (arith, new.observed, new.time), omega (arith, new.time));
}

-- ---- the last text

pub last_at : (texts : List (List ℕ)) (text : List ℕ) → slice_get texts (length texts - 1) ≡ Some text → text ≡ last_text texts
last_at [] text is = absurd (none-some text is)
last_at (only ∷ []) text is =
    let none_before : length (only ∷ []) - 1 ≡ 0 = omega arith in
    sym (same_Some only text (subst (λ (place : ℕ). slice_get (only ∷ []) place ≡ Some text) none_before is))
last_at (first ∷ next ∷ more) text is =
    let here : length (first ∷ next ∷ more) - 1 ≡ suc (length more) = omega arith in
    let there : length (next ∷ more) - 1 ≡ length more = omega arith in
    let at : slice_get (first ∷ next ∷ more) (suc (length more)) ≡ Some text = subst (λ (place : ℕ). slice_get (first ∷ next ∷ more) place ≡ Some text) here is in
    last_at (next ∷ more) text (subst (λ (place : ℕ). slice_get (next ∷ more) place ≡ Some text) (sym there) at)

-- ---- what it begins with

-- the checkpoint of a session with these parts
abbrev pub checkpoint_with : List (List ℕ) → ℕ → ℕ → List Row → Checkpoint
checkpoint_with eras kept_size observed rows = record { eras = eras; output_length = kept_size; observed = observed; next_id = length rows + 1; rows = rows }

begin_empty : (session : Session) (texts : List (List ℕ)) → session.eras ≡ texts → IsEmpty (checkpoint_of_session session) → no_checkpoint texts ≡ checkpoint_of_session session
begin_empty session texts texts_are empty =
    sym (ap (λ (rows : List Row). checkpoint_with session.eras session.kept session.observed rows) empty.rows
    ∙ ap (λ (kept_size : ℕ). checkpoint_with session.eras kept_size session.observed []) empty.output
    ∙ ap (λ (observed : ℕ). checkpoint_with session.eras 0 observed []) empty.observed
    ∙ ap (λ (eras : List (List ℕ)). checkpoint_with eras 0 0 []) texts_are)

nothing_kept : (journal : Option Journal) (saved : Checkpoint) (image : Image DiskFile) → journal ≡ None → HasMemory journal saved image → IsEmpty saved
nothing_kept None saved image none memory = memory.1
nothing_kept (Some journal) saved image none memory = absurd (cc)

-- what was found is what the session remembers
found_memory : (eras : Eras) (journal : Option Journal) (saved : Checkpoint) (image : Image DiskFile) (there : Found) → HasMemory journal saved image → IsFound image there
    → (journal ≡ None → no_checkpoint (texts_of eras) ≡ saved) → checkpoint_of eras there ≡ saved
found_memory eras None saved image nothing memory has empty = empty refl
found_memory eras None saved image damaged memory has empty = absurd (bad_slot image has.0 has.1 memory.0)
found_memory eras None saved image (found checkpoint) memory has empty = absurd (no_journal image has.0 checkpoint memory.0 has.1)
found_memory eras (Some journal) saved image nothing memory has empty = absurd (no_journal image journal saved has memory)
found_memory eras (Some journal) saved image damaged memory has empty = absurd (bad_no_journal image has.0 journal saved has.1 memory)
found_memory eras (Some journal) saved image (found checkpoint) memory has empty =
    one_said image journal has.0 saved checkpoint memory has.1

pub begins_with : (session : Session) (image : Image DiskFile) (there : Found) → GoesOnFrom session image → IsFound image there → (eras : Eras) → session.eras ≡ texts_of eras → checkpoint_of eras there ≡ checkpoint_of_session session
begins_with session image there goes_on has eras texts_are =
    found_memory eras (journal_of_session session) (checkpoint_of_session session) image there goes_on.memory has
    (λ none. begin_empty session (texts_of eras) texts_are (nothing_kept (journal_of_session session) (checkpoint_of_session session) image none goes_on.memory))

-- what is kept of the output is what the session remembers of it
pub kept_found : (journal : Option Journal) (saved : Checkpoint) (image : Image DiskFile) (there : Found) → HasMemory journal saved image → IsFound image there → kept there (image Output) ≡ take saved.output_length (image Output)
kept_found None saved image nothing memory has = sym (ap (λ (n : ℕ). take n (image Output)) memory.1.output)
kept_found None saved image damaged memory has = absurd (bad_slot image has.0 has.1 memory.0)
kept_found None saved image (found checkpoint) memory has = absurd (no_journal image has.0 checkpoint memory.0 has.1)
kept_found (Some journal) saved image nothing memory has = absurd (no_journal image journal saved has memory)
kept_found (Some journal) saved image damaged memory has = absurd (bad_no_journal image has.0 journal saved has.1 memory)
kept_found (Some journal) saved image (found checkpoint) memory has =
    ap (λ (c : Checkpoint). take c.output_length (image Output)) (one_said image journal has.0 saved checkpoint memory has.1)

-- the checkpoint that was found is what the session remembers
pub found_saved : (session : Session) (image : Image DiskFile) (saved : Checkpoint) → GoesOnFrom session image → IsFound image (found saved) → saved ≡ checkpoint_of_session session
found_saved session image saved goes_on has =
    by (journal_of_session session) goes_on.memory
  where
    by : (journal : Option Journal) → HasMemory journal (checkpoint_of_session session) image → saved ≡ checkpoint_of_session session
    by None memory = absurd (no_journal image has.0 saved memory.0 has.1)
    by (Some journal) memory = one_said image journal has.0 (checkpoint_of_session session) saved memory has.1

pub first_found : (journal : Option Journal) (saved : Checkpoint) (image : Image DiskFile) (there : Found) → HasMemory journal saved image → IsFound image there → journal ≡ None → there ≡ nothing
first_found None saved image nothing memory has none = refl
first_found None saved image damaged memory has none = absurd (bad_slot image has.0 has.1 memory.0)
first_found None saved image (found checkpoint) memory has none = absurd (no_journal image has.0 checkpoint memory.0 has.1)
first_found (Some journal) saved image there memory has none = absurd (cc)

pub found_first : (journal : Option Journal) (saved : Checkpoint) (image : Image DiskFile) (there : Found) → HasMemory journal saved image → IsFound image there → there ≡ nothing → journal ≡ None
found_first None saved image there memory has is = refl
found_first (Some journal) saved image nothing memory has is = absurd (no_journal image journal saved has memory)
found_first (Some journal) saved image damaged memory has is = absurd (cc)
found_first (Some journal) saved image (found checkpoint) memory has is = absurd (cc)
