-- The output would be longer than its limit.
use Rattle.std.specs.Prelude.{◌≡◌, ◌⊎◌, ℕ, ◌+◌, ◌<◌, ◌≤◌, List, [], ◌∷◌, ◌++◌, length, map}
use Rattle.file_pass.specs.Full.{lines_text}
use Rattle.outside.specs.Seen.{looked, missed, left_unlisted}
use Rattle.outside.specs.World.{World}
use Rattle.poll_core.specs.SessionParts.{checkpoint_of_session, poll_of_session, rules_of_session, kept_of, limit_of}
use Rattle.poll_core.specs.declared.session.Session.{Session}
use Rattle.standing.specs.Look.{Look, size}
use Rattle.standing.specs.Looks.{Ascend, Come, ReadOn, progress_by}
use Rattle.standing.specs.Marks.{Mark}
use Rattle.standing.specs.Pass.{start_at}

-- One of the lines is the first with which what is kept, and the lines before it, get longer than the limit; so long.
pub record FirstPast (limit kept : ℕ) (marks : List Mark) (full : ℕ) : Type 0 where
  pub front : List Mark
  pub last : Mark
  pub back : List Mark
  pub split : marks ≡ front ++ last ∷ back
  pub before : (front ≡ []) ⊎ (kept + length (lines_text front) ≤ limit)
  pub size_then : full ≡ kept + length (lines_text (front ++ last ∷ []))
  pub too_much : limit < full

-- Looks were made, of which the newest could read its file to the end, and one of their lines is the first past the limit.
pub record Overflows (session : Session) (full : ℕ) (old new : World) : Type 0 where
  pub here : Look
  pub earlier : List Look
  pub misses : List (List ℕ)
  pub unlisteds : List (List ℕ)
  pub all_looks : looked new.history ≡ map (λ (look : Look). look.file) (here ∷ earlier) ++ looked old.history
  pub all_misses : missed new.history ≡ misses ++ missed old.history
  pub all_unlisteds : left_unlisted new.history ≡ unlisteds ++ left_unlisted old.history
  pub come : Come (rules_of_session session) (here ∷ earlier) old.history new.history
  pub ascend : Ascend (here ∷ earlier)
  pub read_on : ReadOn (poll_of_session session) (here ∷ earlier) (start_at (checkpoint_of_session session))
  pub whole : here.end ≡ size here
  pub fills : FirstPast (limit_of session) (kept_of session)
      (progress_by (poll_of_session session) (here ∷ earlier) (start_at (checkpoint_of_session session))).added full
