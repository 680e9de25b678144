-- What a session goes on from, where the image that it finds stands.
use Rattle.std.proofs.Common.{◌≡◌, ℕ, List, refl, take, ap, subst, arith}
use Rattle.std.proofs.lemmas.List.{length-take-le}
use Rattle.std.specs.Prelude.{length}
use Rattle.checkpoint_store.specs.declared.Checkpoint.{Checkpoint}
use Rattle.outside.specs.Image.{Image}
use Rattle.outside.specs.World.{History}
use Rattle.outside.specs.declared.disk.DiskFile.{DiskFile}
use Rattle.outside.specs.declared.disk.DiskFile.TheVariants.{Output}
use Rattle.poll_core.proofs.EraLemmas.{SessionEras}
use Rattle.poll_core.proofs.SessionLemmas.{begins_with, found_first, found_saved, left_goes_on}
use Rattle.poll_core.specs.Found.{IsFound}
use Rattle.pipeline.specs.MadeOf.{AreErasOf}
use Rattle.poll_core.specs.Polled.{AreErasIn, IsStanding}
use Rattle.poll_core.specs.Remembers.{IsLeftBy}
use Rattle.poll_core.specs.SessionParts.{checkpoint_of_session, journal_of_session, kept_of}
use Rattle.poll_core.specs.declared.session.Session.{Session}
use Rattle.standing.proofs.PassLemmas.{nothing_stands}
use Rattle.standing.specs.Eras.{Eras}
use Rattle.standing.specs.Standing.{Found, nothing, damaged, found, checkpoint_of, Standing}
use Rattle.standing.specs.Stands.{CheckpointStands, Stands}
use Rattle.standing.specs.Times.{NoneLater}

-- what the session goes on from, as rows and an output
pub record StandsBefore (session : Session) (history : History) : Type 0 where
  pub eras : Eras
  pub are : AreErasOf session.eras eras
  pub output : List ℕ
  pub stands : Stands eras history (checkpoint_of_session session).rows (checkpoint_of_session session).next_id output
  pub size : length output ≡ kept_of session
  pub times : NoneLater (checkpoint_of_session session).observed stands.marks

-- by eras of the session's texts
begins_from : (session : Session) (history : History) (eras : Eras) → AreErasOf session.eras eras → (there : Found) (image : Image DiskFile) → IsLeftBy session image → IsFound image there → CheckpointStands eras history (checkpoint_of eras there) (image Output) → StandsBefore session history
begins_from session history eras are there image left has stands =
    let begins : checkpoint_of eras there ≡ checkpoint_of_session session = begins_with session image there (left_goes_on session image left) has eras are.texts_are in
    let saved : CheckpointStands eras history (checkpoint_of_session session) (image Output) = subst (λ (c : Checkpoint). CheckpointStands eras history c (image Output)) begins stands in
    record {
      eras = eras;
      are = are;
      output = take (kept_of session) (image Output);
      stands = saved.stands;
      size = length-take-le (kept_of session) (image Output) (omega (arith, left.output));
      times = saved.times;
    }

pub stands_before : (session : Session) → SessionEras session → (history : History) (image : Image DiskFile) → IsLeftBy session image → IsStanding history image → StandsBefore session history
stands_before session own history image left stood = by stood.there stood.found stood.are stood.stands
  where
    by : (there : Found) → IsFound image there → AreErasIn there stood.eras → Standing stood.eras history there (image Output) → StandsBefore session history
    by nothing has are stands =
        let first = own.first (found_first (journal_of_session session) (checkpoint_of_session session) image nothing (left_goes_on session image left).memory has refl) in
        begins_from session history first.0 first.1 nothing image left has (nothing_stands first.0 history (image Output))
    by damaged has are stands = absurd stands
    by (found saved) has are stands =
        let same : saved ≡ checkpoint_of_session session = found_saved session image saved (left_goes_on session image left) has in
        begins_from session history stood.eras (subst (λ (texts : List (List ℕ)). AreErasOf texts stood.eras) (ap (λ (c : Checkpoint). c.eras) same) are) (found saved) image left has stands
