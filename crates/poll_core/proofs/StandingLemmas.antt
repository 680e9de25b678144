-- Whatever a poll leaves, it stands where the image before it stood.
use Rattle.std.proofs.Common.{◌≡◌, ℕ, ◌+◌, ◌≤◌, List, [], ◌∷◌, ◌++◌, length, take, Option, Some, None, refl, sym, ap, subst, ◌∙◌, arith, inl, inr}
use Rattle.std.proofs.lemmas.List.{take_all, length-append, nil_from_length}
use Rattle.checkpoint_journal.specs.Memory.{EndsWithMemory, HasMemory}
use Rattle.checkpoint_journal.specs.declared.journal.Journal.{Journal}
use Rattle.file_pass.specs.Full.{lines_text}
use Rattle.file_pass.specs.TreeTerms.{GoesLater}
use Rattle.outside.proofs.Tearing.{keeps_front_take}
use Rattle.outside.specs.Crash.{Passes}
use Rattle.outside.specs.Image.{Image, KeepsFront}
use Rattle.outside.specs.Images.{Images}
use Rattle.outside.specs.World.{History, World, Told}
use Rattle.outside.specs.declared.disk.DiskFile.{DiskFile}
use Rattle.outside.specs.declared.disk.DiskFile.TheVariants.{Output}
use Rattle.poll_core.proofs.ImageLemmas.{one_found}
use Rattle.poll_core.proofs.SessionLemmas.{left_goes_on, begins_with, found_first, found_saved}
use Rattle.poll_core.specs.Found.{IsFound}
use Rattle.poll_core.specs.Polled.{AreErasIn, ComesAfter, Gains, IsPass, IsStanding, Stays, Steps, Counting, advance, stretch_of}
use Rattle.pipeline.specs.MadeOf.{AreErasOf}
use Rattle.poll_core.specs.Remembers.{IsLeftBy}
use Rattle.poll_core.specs.SessionParts.{checkpoint_of_session, is_first, poll_of_session, rules_of_session, journal_of_session, kept_of, stamp_of_session}
use Rattle.poll_core.specs.declared.session.Session.{Session}
use Rattle.poll_core.specs.Since.{KeepsStandingSince}
use Rattle.slot_store.specs.Synced.{EachLeft}
use Rattle.standing.proofs.PassLemmas.{pass_keeps_standing}
use Rattle.standing.proofs.EraLemmas.{last_size}
use Rattle.standing.proofs.StandsLemmas.{checkpoint_lasts, standing_lasts}
use Rattle.standing.specs.Apart.{Apart}
use Rattle.standing.specs.Eras.{Eras, last_era}
use Rattle.standing.specs.Poll.{Poll, poll_in}
use Rattle.standing.specs.Look.{Look}
use Rattle.standing.specs.Marks.{Mark}
use Rattle.standing.specs.Moments.{IsLater}
use Rattle.standing.specs.Pass.{Pass, Stretch}
use Rattle.standing.specs.Rows.{Checkpoint}
use Rattle.standing.specs.Rules.{Rules}
use Rattle.poll_core.proofs.EraLemmas.{SessionEras}
use Rattle.standing.specs.Standing.{Found, nothing, damaged, found, kept, checkpoint_of, Standing, Lengthens}
use Rattle.standing.specs.Stands.{CheckpointStands}

-- ---- one image

pub lasts : (old new : History) (image : Image DiskFile) → IsLater old new → IsStanding old image → IsStanding new image
lasts old new image later stood = by stood.there stood.are stood.stands stood.found
  where
    by : (there : Found) → AreErasIn there stood.eras → Standing stood.eras old there (image Output) → IsFound image there → IsStanding new image
    by nothing are stands has = record { there = nothing; found = has; eras = stood.eras; are = tt; stands = tt }
    by damaged are stands has = absurd stands
    by (found own) are stands has = record { there = found own; found = has; eras = stood.eras; are = are; stands = standing_lasts stood.eras are.laws old new (found own) (image Output) later stands }

-- bytes past what is kept don't count
pub moved : (eras : Eras) (history : History) (checkpoint : Checkpoint) (file other : List ℕ) → checkpoint.output_length ≤ length other → take checkpoint.output_length other ≡ take checkpoint.output_length file
    → CheckpointStands eras history checkpoint file → CheckpointStands eras history checkpoint other
moved eras history checkpoint file other long same stands = record {
  sound = record { texts = stands.sound.texts; states = stands.sound.states; ids = stands.sound.ids; long_enough = long };
  stands = record { marks = stands.stands.marks; whole_lines = same ∙ stands.stands.whole_lines; lines_stand = stands.stands.lines_stand };
  times = stands.times;
}

-- what an image that was found stands by
pub record StandsBy (history : History) (saved : Checkpoint) (file : List ℕ) : Type 0 where
  pub eras : Eras
  pub are : AreErasOf saved.eras eras
  pub stands : CheckpointStands eras history saved file

pub stands_by : (history : History) (image : Image DiskFile) (saved : Checkpoint) → IsFound image (found saved) → IsStanding history image → StandsBy history saved (image Output)
stands_by history image saved was stood = by stood.there stood.found stood.are stood.stands
  where
    by : (there : Found) → IsFound image there → AreErasIn there stood.eras → Standing stood.eras history there (image Output) → StandsBy history saved (image Output)
    by nothing has are stands = absurd (let same : nothing ≡ found saved = one_found image nothing (found saved) has was in cc)
    by damaged has are stands = absurd stands
    by (found own) has are stands =
        let both : found own ≡ found saved = one_found image (found own) (found saved) has was in
        let same : own ≡ saved = cc in
        subst (λ (c : Checkpoint). StandsBy history c (image Output)) same (record { eras = stood.eras; are = are; stands = stands })

stays_by : (journal : Option Journal) (saved : Checkpoint) (before after : History) (old new : Image DiskFile) → IsLater before after
    → EndsWithMemory journal saved old → length (old Output) ≡ saved.output_length → HasMemory journal saved new → KeepsFront saved.output_length (old Output) (new Output)
    → IsStanding before old → IsStanding after new
stays_by None saved before after old new later ends size memory front stood = record { there = nothing; found = memory.0; eras = stood.eras; are = tt; stands = tt }
stays_by (Some journal) saved before after old new later ends size memory front stood =
    let by = stands_by before old saved (journal, ends.journal_is) stood in
    record {
      there = found saved;
      found = (journal, memory);
      eras = by.eras;
      are = by.are;
      stands = moved by.eras after saved (old Output) (new Output) (omega (arith, front.no_shorter, size)) (keeps_front_take saved.output_length (old Output) (new Output) (omega (arith, size)) front)
          (checkpoint_lasts by.eras by.are.laws before after saved (old Output) later by.stands);
    }

-- an output that ends with what is kept of it
kept_whole : (eras : Eras) (there : Found) (checkpoint : Checkpoint) (history : History) (output : List ℕ) → checkpoint_of eras there ≡ checkpoint → length output ≡ checkpoint.output_length → Standing eras history there output → kept there output ≡ output
kept_whole eras nothing checkpoint history output begins size stands = sym (nil_from_length output (size ∙ sym (ap (λ (c : Checkpoint). c.output_length) begins)))
kept_whole eras damaged checkpoint history output begins size stands = absurd stands
kept_whole eras (found own) checkpoint history output begins size stands =
    take_all own.output_length output (omega (arith, size, ap (λ (c : Checkpoint). c.output_length) begins))

module _ (session : Session) (own : SessionEras session) (never : (rules_of_session session).flush_after ≡ 0) (before after : History) where
  stays_stands : (old new : Image DiskFile) → IsLater before after → IsLeftBy session old → Stays session old new → IsStanding before old → IsStanding after new
  stays_stands old new later left stays stood =
      stays_by (journal_of_session session) (checkpoint_of_session session) before after old new later left.memory left.output stays.memory stays.front stood

  -- by eras of the session's texts
  gains_by : (eras : Eras) → AreErasOf session.eras eras → (there : Found) (next : Checkpoint) (added : List Mark) (looks : List Look) (count count_after : ℕ) (old new : Image DiskFile)
      → Pass (poll_of_session session) (stretch_of before after count count_after) looks (checkpoint_of_session session) next added
      → ComesAfter session next added → Apart (rules_of_session session).front_size after → IsLeftBy session old → Gains session next added old new
      → IsFound old there → Standing eras before there (old Output) → IsStanding after new
  gains_by eras are there next added looks count count_after old new pass comes apart left gains has stands =
      let begins : checkpoint_of eras there ≡ checkpoint_of_session session = begins_with session old there (left_goes_on session old left) has eras are.texts_are in
      let stretch : Stretch = stretch_of before after count count_after in
      let poll : Poll = poll_in eras (is_first session) (stamp_of_session session) in
      let as_poll : poll_of_session session ≡ poll = own.poll_is eras are in
      let passed : Pass poll stretch looks (checkpoint_of eras there) next added =
      subst (λ (c : Checkpoint). Pass poll stretch looks c next added) (sym begins) (subst (λ (p : Poll). Pass p stretch looks (checkpoint_of_session session) next added) as_poll pass) in
      let whole : kept there (old Output) ≡ old Output = kept_whole eras there (checkpoint_of_session session) before (old Output) begins left.output stands in
      let size : length (new Output) ≡ kept_of session + length (lines_text added) = ap length gains.output ∙ length-append (old Output) (lines_text added) ∙ ap (λ (n : ℕ). n + length (lines_text added)) left.output in
      let line_is : rules_of_session session ≡ last_era eras = ap (λ (p : Poll). p.rules) as_poll in
      let lengthens : Lengthens (last_era eras) (kept there (old Output)) next added (new Output) =
      subst (λ (r : Rules). Lengthens r (kept there (old Output)) next added (new Output)) line_is (record {
        long_enough = omega (arith, size, comes.output_length);
        longer = take_all next.output_length (new Output) (omega (arith, size, comes.output_length)) ∙ gains.output ∙ ap (λ (bytes : List ℕ). bytes ++ lines_text added) (sym whole);
      }) in
      record {
        there = found next;
        found = (gains.memory.0, gains.memory.1);
        eras = eras;
        are = record { texts_are = comes.eras ∙ are.texts_are; each = are.each; laws = are.laws };
        stands = pass_keeps_standing eras are.laws (is_first session) (stamp_of_session session) (own.plain never eras are) stretch looks there next added (old Output) (new Output) passed lengthens
            (subst (λ n. Apart n after) (ap (λ (r : Rules). r.front_size) line_is ∙ last_size eras are.laws) apart) stands;
      }

  gains_stands : (next : Checkpoint) (added : List Mark) (looks : List Look) (count count_after : ℕ) (old new : Image DiskFile)
      → Pass (poll_of_session session) (stretch_of before after count count_after) looks (checkpoint_of_session session) next added
      → ComesAfter session next added → Apart (rules_of_session session).front_size after → IsLeftBy session old → Gains session next added old new → IsStanding before old → IsStanding after new
  gains_stands next added looks count count_after old new pass comes apart left gains stood =
      by stood.there stood.found stood.are stood.stands
    where
      by : (there : Found) → IsFound old there → AreErasIn there stood.eras → Standing stood.eras before there (old Output) → IsStanding after new
      by nothing has are stands =
          let first = own.first (found_first (journal_of_session session) (checkpoint_of_session session) old nothing (left_goes_on session old left).memory has refl) in
          gains_by first.0 first.1 nothing next added looks count count_after old new pass comes apart left gains has tt
      by damaged has are stands = absurd stands
      by (found saved) has are stands =
          let same : saved ≡ checkpoint_of_session session = found_saved session old saved (left_goes_on session old left) has in
          gains_by stood.eras (subst (λ (texts : List (List ℕ)). AreErasOf texts stood.eras) (ap (λ (c : Checkpoint). c.eras) same) are) (found saved) next added looks count count_after old new pass comes apart left gains has stands

-- ---- every image

module _ {D : Type 0} (images : Images DiskFile D) (disk disk_after : D) (counts_now : (from : ℕ) (image : Image DiskFile) → from ≤ images.moment disk → images.may_leave disk image → images.left_since disk from image) (session : Session) (own : SessionEras session) (each : EachLeft images disk (IsLeftBy session)) where
  abbrev own_rules : Rules
  own_rules = rules_of_session session

  all_stand : (change : Image DiskFile → Image DiskFile → Type 0) (before after : History) → IsLater before after → Passes images change disk disk_after
      → ((old new : Image DiskFile) → IsLeftBy session old → change old new → IsStanding before old → IsStanding after new)
      → (from : ℕ) → from ≤ images.moment disk → ((image : Image DiskFile) → images.left_since disk from image → IsStanding before image)
      → (image : Image DiskFile) → images.left_since disk_after from image → IsStanding after image
  all_stand change before after later passes step from early stood image left =
      elim (passes.since from image early left) [
        | inl sooner ↦ lasts before after image later (stood image sooner)
        | inr past ↦ step past.0 image (each.each past.0 past.1) past.2 (stood past.0 (counts_now from past.0 early past.1))
      ]

  pub stands_still : (old new : Option World) → Told GoesLater old new → Passes images (Stays session) disk disk_after → Told (KeepsStandingSince images own_rules disk disk_after) old new
  stands_still None None later passes = tt
  stands_still None (Some new) later passes = absurd later
  stands_still (Some old) None later passes = absurd later
  stands_still (Some old) (Some new) later passes = λ never apart from early stood.
      all_stand (Stays session) old.history new.history later passes (λ x y left stays. stays_stands session own never old.history new.history x y later left stays) from early stood

  pub stands_on : (next : Checkpoint) (added : List Mark) (counts : Counting) (old new : Option World) → Told GoesLater old new → ComesAfter session next added → Told (IsPass session (advance next added) counts) old new
      → Passes images (Steps session next added) disk disk_after → Told (KeepsStandingSince images own_rules disk disk_after) old new
  stands_on next added counts None None later comes pass passes = tt
  stands_on next added counts None (Some new) later comes pass passes = absurd later
  stands_on next added counts (Some old) None later comes pass passes = absurd later
  stands_on next added counts (Some old) (Some new) later comes pass passes = λ never apart from early stood.
      all_stand (Steps session next added) old.history new.history later passes (λ x y left step. elim step [
        | inl stays ↦ stays_stands session own never old.history new.history x y later left stays
        | inr gains ↦ gains_stands session own never old.history new.history next added pass.looks counts.before.faults counts.after.faults x y pass.pass comes apart left gains
      ]) from early stood
