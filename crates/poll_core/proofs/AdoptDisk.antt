-- What adopting leaves of a disk.
use Rattle.std.proofs.Common.{◌≡◌, ◌≢◌, ℕ, ◌≤◌, List, [], ◌++◌, length, take, true, false, Option, None, Some, refl, sym, ap, subst, ◌∙◌, arith, inl, inr}
use Rattle.std.proofs.lemmas.List.{append-nil, take_all}
use Rattle.std.specs.Option.{is_none}
use Rattle.std.specs.Prelude.{IsTrue}
use Rattle.checkpoint_journal.specs.JournalOf.{HasCheckpoint, HasJournal, log_of}
use Rattle.checkpoint_journal.specs.Memory.{HasMemory}
use Rattle.checkpoint_journal.specs.Written.{IsWorn}
use Rattle.checkpoint_journal.specs.declared.journal.Journal.{Journal}
use Rattle.checkpoint_store.specs.declared.Checkpoint.{Checkpoint}
use Rattle.file_pass.specs.Full.{lines_text}
use Rattle.outside.proofs.Passing.{passes_by, passes_then, passes_weaker}
use Rattle.outside.proofs.Tearing.{keeps_front_take}
use Rattle.outside.specs.Crash.{Passes}
use Rattle.outside.specs.Image.{Image, Same}
use Rattle.outside.specs.Images.{Images}
use Rattle.outside.specs.declared.disk.DiskFile.{DiskFile}
use Rattle.outside.specs.declared.disk.DiskFile.TheVariants.{Settings, Output}
use Rattle.poll_core.proofs.DiskLemmas.{ends_goes_on, memory_left}
use Rattle.poll_core.proofs.ImageLemmas.{found_kept, kept_stays, one_found, one_sequence, output_of}
use Rattle.poll_core.specs.Adopting.{IsAdopted, IsAdoption, KeepsAll, MayAdopt, TellsAdopted}
use Rattle.poll_core.specs.Adoption.{HasPut}
use Rattle.poll_core.specs.Found.{IsFound}
use Rattle.poll_core.specs.Polled.{Stays, Steps}
use Rattle.poll_core.specs.Remembers.{GoesOnFrom, IsLeftBy}
use Rattle.poll_core.specs.Reopens.{Reopens}
use Rattle.poll_core.specs.Sequence.{HasSequence, of_log}
use Rattle.poll_core.specs.SessionParts.{checkpoint_of_session, is_first, journal_of_session, kept_of, limit_of, settings_of_session}
use Rattle.poll_core.specs.Settled.{IsSettled}
use Rattle.poll_core.specs.StandsOn.{StandsOn}
use Rattle.poll_core.specs.declared.adopted.Adopted.{Adopted}
use Rattle.poll_core.specs.declared.adoption.Adoption.{Adoption}
use Rattle.poll_core.specs.declared.session.Session.{Session}
use Rattle.slot_store.specs.Frame.{last_number}
use Rattle.slot_store.specs.Synced.{EachLeft}
use Rattle.standing.specs.Marks.{Mark}
use Rattle.standing.specs.Standing.{Found, found, kept}

-- ---- one image

pub keeps_same : (old new : Image DiskFile) → new ≡ old → KeepsAll old new
keeps_same old new same =
    let P : Image DiskFile → Type 0 = λ image. KeepsAll old image in
    subst P (sym same) (record { there = λ there has. has; output = λ there has. refl })

pub keeps_reopened : (old new : Image DiskFile) → Reopens old new → KeepsAll old new
keeps_reopened old new reopens = record {
  there = λ there has. found_kept reopens.logs there has;
  output = λ there has. kept_stays old new there reopens has;
}

-- the journal of a session that isn't the first
pub record HasOwnJournal (session : Session) : Type 0 where
  pub journal : Journal
  pub is : journal_of_session session ≡ Some journal

pub own_journal : (session : Session) → is_first session ≡ false → HasOwnJournal session
own_journal session stood = by (journal_of_session session) refl stood
  where
    by : (journal : Option Journal) → journal_of_session session ≡ journal → is_none journal ≡ false → HasOwnJournal session
    by None is none = absurd (let never : true ≡ false = none in cc)
    by (Some journal) is none = record { journal = journal; is = is }

module _ (session : Session) (own : HasOwnJournal session) where
  abbrev saved : Checkpoint
  saved = checkpoint_of_session session

  pub has_journal : (image : Image DiskFile) → HasMemory (journal_of_session session) saved image → HasJournal own.journal saved image
  has_journal image memory = subst (λ (j : Option Journal). HasMemory j saved image) own.is memory

  pub has_saved : (image : Image DiskFile) → HasMemory (journal_of_session session) saved image → HasCheckpoint (Some saved) image
  has_saved image memory = (own.journal, has_journal image memory)

  -- what was found is what the session remembers
  is_saved : (image : Image DiskFile) (there : Found) → HasMemory (journal_of_session session) saved image → IsFound image there → there ≡ found saved
  is_saved image there memory has = one_found image there (found saved) has (has_saved image memory)

  -- an output that is as long as what is kept of it
  pub cut_output : (old mid : Image DiskFile) → HasMemory (journal_of_session session) saved old → Reopens old mid → length (mid Output) ≡ kept_of session → mid Output ≡ take (kept_of session) (old Output)
  cut_output old mid memory reopens size = elim (output_of old mid saved reopens (has_saved old memory)) [
    | inl same ↦ (same ∙ sym (take_all (kept_of session) (old Output) (omega (arith, size, ap (λ (t : List ℕ). length t) same))))
    | inr cut ↦ cut
  ]

  pub keeps_stayed : (old mid new : Image DiskFile) → GoesOnFrom session old → Reopens old mid → IsLeftBy session mid → Stays session mid new → KeepsAll old new
  keeps_stayed old mid new goes_on reopens left stays = record {
    there = λ there has.
        let P : Found → Type 0 = λ f. IsFound new f in
        subst P (sym (is_saved old there goes_on.memory has)) (has_saved new stays.memory);
    output = λ there has.
        let P : Found → Type 0 = λ f. kept f (new Output) ≡ kept f (old Output) in
        let front : take (kept_of session) (new Output) ≡ take (kept_of session) (mid Output) = keeps_front_take (kept_of session) (mid Output) (new Output) (omega (arith, left.output)) stays.front in
        let cut : mid Output ≡ take (kept_of session) (old Output) = cut_output old mid goes_on.memory reopens left.output in
        subst P (sym (is_saved old there goes_on.memory has)) (front ∙ take_all (kept_of session) (mid Output) (omega (arith, left.output)) ∙ cut);
  }

  -- the image's sequence number is that of the session
  not_last : (IsWorn (journal_of_session session) → ⊥) → (image : Image DiskFile) → HasMemory (journal_of_session session) saved image → HasSequence image last_number → ⊥
  not_last fresh image memory last =
      let has : HasJournal own.journal saved image = has_journal image memory in
      let same : own.journal.sequence ≡ last_number = one_sequence image own.journal.sequence last_number (of_log (log_of own.journal) has.base has.records has.log_is) last in
      fresh (subst (λ (j : Option Journal). IsWorn j) (sym own.is) same)

  -- the adoption that is put, and what it tells
  pub record IsOwnAdoption (text : List ℕ) (after : Checkpoint) (added : List Mark) (adopted : Adopted) : Type 0 where
    pub adoption : IsAdoption text (checkpoint_of_session session) after added
    pub within : added ≢ [] → after.output_length ≤ limit_of session
    pub not_worn : IsWorn (journal_of_session session) → ⊥
    pub told : TellsAdopted after added adopted

  pub adopted_gained : (text : List ℕ) (after : Checkpoint) (added : List Mark) (adopted : Adopted) → IsOwnAdoption text after added adopted
      → (old mid new : Image DiskFile) → GoesOnFrom session old → Reopens old mid → IsLeftBy session mid → HasCheckpoint (Some after) new → new Output ≡ mid Output ++ lines_text added
      → IsAdopted text (limit_of session) adopted old new
  adopted_gained text after added adopted own_adoption old mid new goes_on reopens left has output = record {
    before = saved;
    had = has_saved old goes_on.memory;
    after = after;
    has = has;
    added = added;
    change = inr (own_adoption.adoption, record { within = own_adoption.within; not_worn = not_last own_adoption.not_worn old goes_on.memory });
    enough = goes_on.long_enough;
    output = output ∙ ap (λ (t : List ℕ). t ++ lines_text added) (cut_output old mid goes_on.memory reopens left.output);
    told = own_adoption.told;
  }

  -- the settings are in force already
  pub adopted_still : (text : List ℕ) (adopted : Adopted) → settings_of_session session ≡ text → TellsAdopted saved [] adopted
      → (old new : Image DiskFile) → GoesOnFrom session old → new Output ≡ take (kept_of session) (old Output) → HasCheckpoint (Some saved) new → IsAdopted text (limit_of session) adopted old new
  adopted_still text adopted same told old new goes_on output has = record {
    before = saved;
    had = has_saved old goes_on.memory;
    after = saved;
    has = has;
    added = [];
    change = inl (record { same_text = same; same = refl; none = refl });
    enough = goes_on.long_enough;
    output = output ∙ sym (append-nil (take (kept_of session) (old Output)));
    told = told;
  }

-- ---- all images

pub goes_on_left : {D : Type 0} {images : Images DiskFile D} (session : Session) {disk : D} → IsSettled images disk → (image : Image DiskFile) → images.may_leave disk image → GoesOnFrom session (images.seen disk) → GoesOnFrom session image
goes_on_left session {disk} settled image left goes_on = record {
  memory = memory_left (journal_of_session session) (checkpoint_of_session session) settled image left goes_on.memory;
  long_enough = omega (arith, goes_on.long_enough, ap (λ (t : List ℕ). length t) (settled.each image left Output (λ same. cc)));
}

-- an image from before the cuts, from which the session goes on, and one from after them
abbrev Opened : Session → Image DiskFile → Image DiskFile → Type 0
Opened session x y = Reopens x y × GoesOnFrom session x

module _ {D : Type 0} {images : Images DiskFile D} (told : (disk : D) (image : Image DiskFile) → images.may_leave disk image → IsTrue (images.tells disk)) where
  -- no checkpoint or the one that stood, wherever calls were cut short
  pub may_by_same : (text : List ℕ) (limit : ℕ) {old new : D} → Passes images Same old new → Passes images (MayAdopt text limit) old new
  may_by_same text limit passes = passes_weaker passes (λ x y same. record { settings = ap (λ (i : Image DiskFile). i Settings) same; choice = inl (keeps_same x y same) })

  pub may_by_reopens : (text : List ℕ) (limit : ℕ) {old new : D} → Passes images Reopens old new → Passes images (MayAdopt text limit) old new
  may_by_reopens text limit passes = passes_weaker passes (λ x y reopens. record { settings = reopens.settings; choice = inl (keeps_reopened x y reopens) })

  pub may_after_same : (text : List ℕ) (limit : ℕ) {old mid new : D} → Passes images Same old mid → Passes images (MayAdopt text limit) mid new → Passes images (MayAdopt text limit) old new
  may_after_same text limit a b = passes_then a b
      (λ x y same. record { settings = ap (λ (i : Image DiskFile). i Settings) same; choice = inl (keeps_same x y same) })
      (λ x y z same may. let P : Image DiskFile → Type 0 = λ w. MayAdopt text limit w z in subst P same may)

  opened : (session : Session) {old mid : D} → IsSettled images old → (IsTrue (images.tells old) → GoesOnFrom session (images.seen old)) → Passes images Reopens old mid → Passes images (Opened session) old mid
  opened session {old} settled goes_on reopens = passes_by reopens (λ x y left step. (step, goes_on_left session settled x left (goes_on (told old x left))))

  module _ (session : Session) (own : HasOwnJournal session) {old mid new : D} (settled : IsSettled images old) (goes_on : IsTrue (images.tells old) → GoesOnFrom session (images.seen old)) (reopens : Passes images Reopens old mid) where
    pub may_by_steps : (text : List ℕ) (after : Checkpoint) (added : List Mark) (adopted : Adopted) → IsOwnAdoption session own text after added adopted
        → StandsOn images session mid → Passes images (Steps session after added) mid new → Passes images (MayAdopt text (limit_of session)) old new
    may_by_steps text after added adopted own_adoption stands steps =
        let Stepped : Image DiskFile → Image DiskFile → Type 0 = λ y z. Steps session after added y z × IsLeftBy session y in
        let stepped : Passes images Stepped mid new = passes_by steps (λ y z left step. (step, stands.each.each y left)) in
        passes_then (opened session settled goes_on reopens) stepped
        (λ x y o. record { settings = o.0.settings; choice = inl (keeps_reopened x y o.0) })
        (λ x y z o s. elim s.0 [
          | inl stays ↦ record { settings = stays.settings ∙ o.0.settings; choice = inl (keeps_stayed session own x y z o.1 o.0 s.1 stays) }
          | inr gains ↦ record {
            settings = gains.settings ∙ o.0.settings;
            choice = inr (adopted, adopted_gained session own text after added adopted own_adoption x y z o.1 o.0 s.1 (gains.memory.0, gains.memory.1) gains.output);
          }
        ])

  -- an image that was cut to what is kept
  output_cut : (session : Session) (own : HasOwnJournal session) {old mid : D} → IsSettled images old → (IsTrue (images.tells old) → GoesOnFrom session (images.seen old)) → Passes images Reopens old mid → StandsOn images session mid
      → (image : Image DiskFile) → images.may_leave mid image → image Output ≡ take (kept_of session) (images.seen old Output)
  output_cut session own {old} settled goes_on reopens stands image left =
      let past = reopens.now_left image left in
      let memory = (goes_on_left session settled past.0 past.1 (goes_on (told old past.0 past.1))).memory in
      cut_output session own past.0 image memory past.2 (stands.each.each image left).output
      ∙ ap (λ (file : List ℕ). take (kept_of session) file) (settled.each past.0 past.1 Output (λ same. cc))

  pub still_adopted : (session : Session) (own : HasOwnJournal session) {old mid : D} → IsSettled images old → (IsTrue (images.tells old) → GoesOnFrom session (images.seen old)) → Passes images Reopens old mid → StandsOn images session mid
      → ((image : Image DiskFile) → images.may_leave mid image → IsTrue (images.tells old)) → (text : List ℕ) (adopted : Adopted) → settings_of_session session ≡ text → TellsAdopted (checkpoint_of_session session) [] adopted
      → EachLeft images mid (IsAdopted text (limit_of session) adopted (images.seen old))
  still_adopted session own {old} settled goes_on reopens stands tells text adopted same numbers = record {
    each = λ image left.
        let by = stands.each.each image left in
        adopted_still session own text adopted same numbers (images.seen old) image (goes_on (tells image left)) (output_cut session own settled goes_on reopens stands image left)
        (has_saved session own image (ends_goes_on (journal_of_session session) (checkpoint_of_session session) image by.memory));
  }

  pub put_adopted : (session : Session) (own : HasOwnJournal session) {old mid new : D} → (IsTrue (images.tells old) → GoesOnFrom session (images.seen old)) → (IsTrue (images.tells old) → Reopens (images.seen old) (images.seen mid)) → StandsOn images session mid
      → (IsTrue (images.tells old) → images.may_leave mid (images.seen mid)) → ((image : Image DiskFile) → images.may_leave new image → IsTrue (images.tells old))
      → (text : List ℕ) (adoption : Adoption) (added : List Mark) (adopted : Adopted) → adoption.lines.items ≡ lines_text added → IsOwnAdoption session own text adoption.checkpoint added adopted
      → EachLeft images new (HasPut adoption (images.seen mid Output)) → EachLeft images new (IsAdopted text (limit_of session) adopted (images.seen old))
  put_adopted session own {old} {mid} goes_on reopens stands shown tells text adoption added adopted lines_are own_adoption put = record {
    each = λ image left.
        let now = tells image left in
        let has = put.each image left in
        adopted_gained session own text adoption.checkpoint added adopted own_adoption (images.seen old) (images.seen mid) image (goes_on now) (reopens now) (stands.each.each (images.seen mid) (shown now)) has.has
        (has.output_is ∙ ap (λ (bytes : List ℕ). images.seen mid Output ++ bytes) lines_are);
  }
