-- A session is made of what was found.
use Rattle.std.specs.Prelude.{◌≡◌, ℕ, List, Option, Some, None, ⊤}
use Rattle.checkpoint_journal.specs.Memory.{IsEmpty}
use Rattle.checkpoint_journal.specs.declared.journal.Journal.{Journal}
use Rattle.checkpoint_store.specs.declared.Checkpoint.{Checkpoint}
use Rattle.poll_core.specs.Differs.{DiffersAt}
use Rattle.pipeline.specs.Foreign.{IsLeastForeign}
use Rattle.poll_core.specs.SessionParts.{last_text, checkpoint_of_session, journal_of_session}
use Rattle.poll_core.specs.declared.fault.OpenFault.{OpenFault}
use Rattle.poll_core.specs.declared.fault.OpenFault.TheVariants.{Settings, Build, Disk, CheckpointBad, SettingsChanged, OutputShort, Memory}
use Rattle.poll_core.specs.declared.session.Session.{Session}
use Rattle.standing.specs.Rules.{Rules}

-- The session has this journal and this checkpoint, or none and remembers nothing.
abbrev pub IsOfFound : Option (Journal × Checkpoint) → Session → Type 0
IsOfFound None session = (journal_of_session session ≡ None) × IsEmpty (checkpoint_of_session session)
IsOfFound (Some found) session = (journal_of_session session ≡ Some found.0) × (checkpoint_of_session session ≡ found.1)

-- why no session of a text goes on from a checkpoint
abbrev pub IsUnfit : List ℕ → Rules → Checkpoint → OpenFault → Type 0
IsUnfit text rules checkpoint (Settings _) = ⊥
IsUnfit text rules checkpoint (Build _) = ⊥
IsUnfit text rules checkpoint Disk = ⊥
IsUnfit text rules checkpoint (CheckpointBad id) = (last_text checkpoint.eras ≡ text) × IsLeastForeign rules checkpoint.rows id
IsUnfit text rules checkpoint (SettingsChanged at) = DiffersAt (last_text checkpoint.eras) text at
IsUnfit text rules checkpoint (OutputShort _ _) = ⊥
IsUnfit text rules checkpoint Memory = ⊤

abbrev pub IsRejected : List ℕ → Rules → Option (Journal × Checkpoint) → OpenFault → Type 0
IsRejected text rules None fault = fault ≡ Memory
IsRejected text rules (Some found) fault = IsUnfit text rules found.1 fault
