-- What images keep from call to call.
use Rattle.std.proofs.Common.{◌≡◌, ℕ, ◌+◌, ◌≤◌, List, [], ◌++◌, Option, None, Some, refl, sym, ap, ◌∙◌, subst, arith, inl, inr, append_assoc}
use Rattle.std.specs.Prelude.{◌⊎◌}
use Rattle.std.proofs.lemmas.List.{append-nil}
use Rattle.checkpoint_journal.specs.JournalOf.{HasJournal, log_of}
use Rattle.checkpoint_journal.specs.Memory.{EndsWithMemory, HasMemory}
use Rattle.checkpoint_journal.specs.Next.{sequence_after}
use Rattle.checkpoint_journal.specs.declared.journal.Journal.{Journal}
use Rattle.checkpoint_store.specs.declared.Checkpoint.{Checkpoint}
use Rattle.file_pass.specs.Full.{lines_text}
use Rattle.file_pass.specs.Moment as pass
use Rattle.outside.proofs.Passing.{passes_by, passes_then}
use Rattle.outside.specs.Crash.{Passes}
use Rattle.outside.specs.Image.{Image, Same}
use Rattle.outside.specs.Images.{Images}
use Rattle.outside.specs.TreeMeaning.{TreeMeaning}
use Rattle.outside.specs.DiskMeaning.{DiskMeaning}
use Rattle.outside.specs.declared.disk.DiskFile.{DiskFile}
use Rattle.outside.specs.declared.disk.DiskFile.TheVariants.{Output}
use Rattle.poll_core.proofs.ImageLemmas.{found_kept, kept_stays, one_sequence, sequence_kept}
use Rattle.pipeline.proofs.OfText.{OneSet}
use Rattle.poll_core.proofs.SafeLemmas.{gains_kept, stays_kept}
use Rattle.poll_core.proofs.SoundLemmas.{gains_sound, image_still, stays_sound}
use Rattle.poll_core.specs.Found.{IsFound}
use Rattle.poll_core.specs.IsSession.{IsSession}
use Rattle.poll_core.specs.Polled.{ComesAfter, Gains, MayGain, Stays, Steps}
use Rattle.poll_core.specs.Remembers.{IsLeftBy}
use Rattle.poll_core.specs.Reopens.{Reopens}
use Rattle.poll_core.specs.Sequence.{HasSequence, no_slot, of_log}
use Rattle.poll_core.specs.SessionParts.{journal_of_session, checkpoint_of_session}
use Rattle.poll_core.specs.StandsOn.{StandsOn}
use Rattle.poll_core.specs.declared.session.Session.{Session}
use Rattle.standing.specs.Marks.{Mark}
use Rattle.standing.specs.Standing.{Found, nothing, found, kept}
use Rattle.agent_commands.specs.Grows.{GrowsBy}

-- ---- one image after another

pub grows_same : (image : Image DiskFile) → GrowsBy 0 image image
grows_same image = record {
  settings = refl;
  kept_then = λ there found. record { after = there; found = found; more = []; longer = sym (append-nil (kept there (image Output))) };
  sound = λ sound. sound;
  sequence = λ number has. record { after = number; has = has; no_lower = omega arith; within = omega arith };
}

pub grows_then : (first second : ℕ) (old mid new : Image DiskFile) → GrowsBy first old mid → GrowsBy second mid new → GrowsBy (first + second) old new
grows_then first second old mid new a b = record {
  settings = b.settings ∙ a.settings;
  kept_then = λ there found.
      let between = a.kept_then there found in
      let behind = b.kept_then between.after between.found in
      record {
        after = behind.after;
        found = behind.found;
        more = between.more ++ behind.more;
        longer = behind.longer ∙ ap (λ front. front ++ behind.more) between.longer ∙ append_assoc (kept there (old Output)) between.more behind.more;
      };
  sound = λ sound. b.sound (a.sound sound);
  sequence = λ number has.
      let between = a.sequence number has in
      let behind = b.sequence between.after between.has in
      record {
        after = behind.after;
        has = behind.has;
        no_lower = omega (arith, between.no_lower, behind.no_lower);
        within = omega (arith, between.within, behind.within);
      };
}

pub grows_more : (few many : ℕ) (old new : Image DiskFile) → few ≤ many → GrowsBy few old new → GrowsBy many old new
grows_more few many old new more grows = record {
  settings = grows.settings;
  kept_then = grows.kept_then;
  sound = grows.sound;
  sequence = λ number has.
      let then = grows.sequence number has in
      record { after = then.after; has = then.has; no_lower = then.no_lower; within = omega (arith, then.within, more) };
}

-- ---- opening

pub reopens_grows : (old new : Image DiskFile) → Reopens old new → GrowsBy 0 old new
reopens_grows old new reopens = record {
  settings = reopens.settings;
  kept_then = λ there found. record {
    after = there;
    found = found_kept reopens.logs there found;
    more = [];
    longer = kept_stays old new there reopens found ∙ sym (append-nil (kept there (old Output)));
  };
  sound = image_still old new reopens;
  sequence = λ number has. record { after = number; has = sequence_kept reopens.logs number has; no_lower = omega arith; within = omega arith };
}

-- ---- polls

-- the sequence number of a memory
abbrev number_of : Option Journal → ℕ
number_of None = 0
number_of (Some journal) = journal.sequence

journal_number : (journal : Journal) (saved : Checkpoint) (image : Image DiskFile) → HasJournal journal saved image → HasSequence image journal.sequence
journal_number journal saved image has = of_log (log_of journal) has.base has.records has.log_is

memory_number : (journal : Option Journal) (saved : Checkpoint) (image : Image DiskFile) → HasMemory journal saved image → HasSequence image (number_of journal)
memory_number None saved image memory = no_slot memory.0
memory_number (Some journal) saved image memory = journal_number journal saved image memory

ending_number : (journal : Option Journal) (saved : Checkpoint) (image : Image DiskFile) → EndsWithMemory journal saved image → HasSequence image (number_of journal)
ending_number None saved image ends = no_slot ends.0
ending_number (Some journal) saved image ends = journal_number journal saved image ends.journal_is

next_number : (journal : Option Journal) → sequence_after journal ≡ number_of journal + 1
next_number None = refl
next_number (Some journal) = refl

memory_found : (journal : Option Journal) (saved : Checkpoint) (image : Image DiskFile) → HasMemory journal saved image → (there : Found) × IsFound image there
memory_found None saved image memory = (nothing, memory.0)
memory_found (Some journal) saved image memory = (found saved, (journal, memory))

module _ (one_set : OneSet) (session : Session) (old new : Image DiskFile) (is : IsSession session) (left : IsLeftBy session old) where
  had : (number : ℕ) → HasSequence old number → number ≡ number_of (journal_of_session session)
  had number has = one_sequence old number (number_of (journal_of_session session)) has (ending_number (journal_of_session session) (checkpoint_of_session session) old left.memory)

  pub stays_grows : Stays session old new → GrowsBy 0 old new
  stays_grows stays =
      let after = memory_found (journal_of_session session) (checkpoint_of_session session) new stays.memory in
      record {
        settings = stays.settings;
        kept_then = λ there has. record {
          after = after.0;
          found = after.1;
          more = [];
          longer = stays_kept session old new there after.0 left stays has after.1 ∙ sym (append-nil (kept there (old Output)));
        };
        sound = λ sound. stays_sound one_set session old new is left sound stays;
        sequence = λ number has. record {
          after = number_of (journal_of_session session);
          has = memory_number (journal_of_session session) (checkpoint_of_session session) new stays.memory;
          no_lower = omega (arith, had number has);
          within = omega (arith, had number has);
        };
      }

  pub gains_grows : (next : Checkpoint) (added : List Mark) → ComesAfter session next added → Gains session next added old new → GrowsBy 1 old new
  gains_grows next added comes gains =
      let after : Found = found next in
      let is_found : IsFound new after = (gains.memory.0, gains.memory.1) in
      record {
        settings = gains.settings;
        kept_then = λ there has. record {
          after = after;
          found = is_found;
          more = lines_text added;
          longer = gains_kept session next added old new there after comes left gains has is_found;
        };
        sound = λ sound. gains_sound one_set session old new is left sound next added comes gains;
        sequence = λ number has. record {
          after = gains.memory.0.sequence;
          has = journal_number gains.memory.0 next new gains.memory.1;
          no_lower = omega (arith, had number has, gains.memory.2, next_number (journal_of_session session));
          within = omega (arith, had number has, gains.memory.2, next_number (journal_of_session session));
        };
      }

  pub steps_grows : (next : Checkpoint) (added : List Mark) → ComesAfter session next added → Steps session next added old new → GrowsBy 1 old new
  steps_grows next added comes steps = elim steps [
    | inl stays ↦ grows_more 0 1 old new (omega arith) (stays_grows stays)
    | inr gains ↦ gains_grows next added comes gains
  ]

-- ---- disks

module _ {D : Type 0} {images : Images DiskFile D} where
  pub passes_grow_then : (first second : ℕ) (old mid new : D) → Passes images (GrowsBy first) old mid → Passes images (GrowsBy second) mid new → Passes images (GrowsBy (first + second)) old new
  passes_grow_then first second old mid new a b =
      passes_then a b (λ x y grows. grows_more first (first + second) x y (omega arith) grows) (λ x y z grows more. grows_then first second x y z grows more)

  pub passes_grow_more : (few many : ℕ) (old new : D) → few ≤ many → Passes images (GrowsBy few) old new → Passes images (GrowsBy many) old new
  passes_grow_more few many old new more passes = passes_by passes (λ x y left grows. grows_more few many x y more grows)

  -- one poll more
  pub passes_grow_on : (polls many : ℕ) (old mid new : D) → polls + 1 ≡ many → Passes images (GrowsBy polls) old mid → Passes images (GrowsBy 1) mid new → Passes images (GrowsBy many) old new
  passes_grow_on polls many old mid new count a b = subst (λ (n : ℕ). Passes images (GrowsBy n) old new) count (passes_grow_then polls 1 old mid new a b)

  pub same_grows : (old new : D) → Passes images Same old new → Passes images (GrowsBy 0) old new
  same_grows old new passes = passes_by passes (λ x y left same. subst (λ z. GrowsBy 0 x z) (sym same) (grows_same x))

  pub opening_grows : (old new : D) → Passes images Reopens old new → Passes images (GrowsBy 0) old new
  opening_grows old new passes = passes_by passes (λ x y left reopens. reopens_grows x y reopens)

  -- a session was opened before
  pub opened_grows : (most : ℕ) (old mid new : D) → Passes images Reopens old mid → Passes images (GrowsBy most) mid new → Passes images (GrowsBy most) old new
  opened_grows most old mid new opens grows = subst (λ (n : ℕ). Passes images (GrowsBy n) old new) (omega arith) (passes_grow_then 0 most old mid new (opening_grows old mid opens) grows)

-- whatever a poll answers
pub poll_grows : {T D : Type 0} (one_set : OneSet) (trees : TreeMeaning T) (disks : DiskMeaning D) (session : Session) (tree tree_after : T) (disk disk_after : D) → IsSession session → StandsOn disks.images session disk
    → Passes disks.images (Stays session) disk disk_after ⊎ MayGain (pass.meanings trees disks) session (pass.moment tree disk) (pass.moment tree_after disk_after)
    → Passes disks.images (GrowsBy 1) disk disk_after
poll_grows one_set trees disks session tree tree_after disk disk_after is stands answered = elim answered [
  | inl stays ↦ passes_by stays (λ x y left step. grows_more 0 1 x y (omega arith) (stays_grows one_set session x y is (stands.each.each x left) step))
  | inr gains ↦ passes_by gains.crash (λ x y left step. steps_grows one_set session x y is (stands.each.each x left) gains.after gains.added gains.comes step)
]
