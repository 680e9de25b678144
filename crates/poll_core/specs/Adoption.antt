-- What adopting is to make of a session's checkpoint.
use Rattle.std.specs.Prelude.{◌≡◌, ◌≢◌, ℕ, ◌+◌, ◌<◌, ◌≤◌, ◌^◌, List, [], ◌++◌, length, map, max, Some}
use Rattle.checkpoint_journal.specs.JournalOf.{HasCheckpoint}
use Rattle.checkpoint_journal.specs.Written.{IsWorn}
use Rattle.checkpoint_store.specs.Limits.{era_limit, newest}
use Rattle.checkpoint_store.specs.Rules.{IsCheckpoint}
use Rattle.file_pass.specs.Full.{lines_text}
use Rattle.outside.specs.Image.{Image}
use Rattle.outside.specs.declared.disk.DiskFile.{DiskFile}
use Rattle.outside.specs.declared.disk.DiskFile.TheVariants.{Output}
use Rattle.pipeline.specs.AsRules.{rules_of}
use Rattle.pipeline.specs.Parts.{settings_of}
use Rattle.pipeline.specs.declared.Pipeline.{Pipeline}
use Rattle.poll_core.specs.AdoptFaults.{all_closed}
use Rattle.poll_core.specs.Adopting.{sole_era}
use Rattle.poll_core.specs.Overflows.{FirstPast}
use Rattle.poll_core.specs.SessionParts.{checkpoint_of_session, journal_of_session, kept_of, limit_of, rules_of_session}
use Rattle.poll_core.specs.declared.adopt_fault.AdoptFault.{AdoptFault}
use Rattle.poll_core.specs.declared.adopt_fault.AdoptFault.TheVariants.{Fingerprint, Eras, OutputFull, Worn}
use Rattle.poll_core.specs.declared.adoption.Adoption.{Adoption}
use Rattle.part_closing.specs.declared.closing.Closing.{Closing}
use Rattle.poll_core.specs.declared.session.Session.{Session}
use Rattle.slot_store.specs.Frame.{last_number}
use Rattle.standing.specs.Adopted.{Adopts, row_adopted}
use Rattle.standing.specs.Marks.{Mark}

-- the lines of what its operators hold back
abbrev pub lines_held : Session → List Mark
lines_held session = all_closed (rules_of_session session) (checkpoint_of_session session)

-- All its files are closed, so that the operators of the next pipeline can go on with them.
pub record HasClosedAll (session : Session) (next : Pipeline) (closing : Closing) : Type 0 where
  pub rows_are : (text : List ℕ) → closing.rows.items ≡ map (row_adopted (rules_of_session session) (rules_of text next)) session.tracker
  pub lines_are : closing.lines.items ≡ lines_text (lines_held session)
  pub count_is : closing.count ≡ length (lines_held session)
  pub short : (text : List ℕ) → length (rules_of text next).fresh < 2 ^ 32

-- how many bytes tell files from one another
abbrev pub front_size_of : Pipeline → ℕ
front_size_of pipeline = (settings_of pipeline).fingerprint_size

-- the next settings may follow
pub record MayFollowOn (session : Session) (next : Pipeline) : Type 0 where
  pub one_front_size : front_size_of next ≡ front_size_of session.pipeline
  pub few : length session.eras < era_limit

-- why they may not
abbrev pub IsBarred : Session → Pipeline → AdoptFault → Type 0
IsBarred session next (Fingerprint kept found) = (kept ≡ front_size_of session.pipeline) × (found ≡ front_size_of next) × (kept ≢ found)
IsBarred session next Eras = (front_size_of next ≡ front_size_of session.pipeline) × (era_limit ≤ length session.eras)
IsBarred session next fault = ⊥

-- there is room for these lines, and a sequence number is left
pub record HasRoom (session : Session) (lines : List ℕ) : Type 0 where
  pub within : kept_of session + length lines ≤ max (limit_of session) (kept_of session)
  pub not_worn : IsWorn (journal_of_session session) → ⊥

-- why there is none
abbrev pub HasNoRoom : Session → List ℕ → AdoptFault → Type 0
HasNoRoom session lines (OutputFull size) = (marks : List Mark) → lines ≡ lines_text marks → FirstPast (limit_of session) (kept_of session) marks size
HasNoRoom session lines (Worn sequence) =
    (sequence ≡ last_number) × IsWorn (journal_of_session session) × (kept_of session + length lines ≤ max (limit_of session) (kept_of session))
HasNoRoom session lines fault = ⊥

-- The checkpoint is that of the session with one era more, and the lines are those of what is held back.
pub record IsAdoptionOf (session : Session) (text : List ℕ) (next : Pipeline) (adoption : Adoption) : Type 0 where
  pub adopts : Adopts (sole_era (rules_of_session session)) (rules_of text next) (checkpoint_of_session session) adoption.checkpoint (lines_held session)
  pub lines_are : adoption.lines.items ≡ lines_text (lines_held session)
  pub count_is : adoption.count ≡ length (lines_held session)
  pub one_front_size : front_size_of next ≡ front_size_of session.pipeline
  pub lawful : IsCheckpoint newest adoption.checkpoint
  pub within : lines_held session ≢ [] → adoption.checkpoint.output_length ≤ limit_of session
  pub not_worn : IsWorn (journal_of_session session) → ⊥

-- The image has its checkpoint, and its lines behind this output.
pub record HasPut (adoption : Adoption) (output : List ℕ) (image : Image DiskFile) : Type 0 where
  pub has : HasCheckpoint (Some adoption.checkpoint) image
  pub output_is : image Output ≡ output ++ adoption.lines.items
