-- An image has what a session remembers.
use Rattle.std.specs.Prelude.{◌≡◌, ◌≤◌, length}
use Rattle.checkpoint_journal.specs.Memory.{HasMemory, EndsWithMemory}
use Rattle.outside.specs.Image.{Image}
use Rattle.outside.specs.declared.disk.DiskFile.{DiskFile}
use Rattle.outside.specs.declared.disk.DiskFile.TheVariants.{Output}
use Rattle.poll_core.specs.SessionParts.{checkpoint_of_session, journal_of_session, kept_of}
use Rattle.poll_core.specs.declared.session.Session.{Session}

-- The session goes on from what the image has, and what it keeps of the output is there.
pub record GoesOnFrom (session : Session) (image : Image DiskFile) : Type 0 where
  pub memory : HasMemory (journal_of_session session) (checkpoint_of_session session) image
  pub long_enough : kept_of session ≤ length (image Output)

-- The image has what the session remembers and nothing behind it.
pub record IsLeftBy (session : Session) (image : Image DiskFile) : Type 0 where
  pub memory : EndsWithMemory (journal_of_session session) (checkpoint_of_session session) image
  pub output : length (image Output) ≡ kept_of session
