-- Moments of a history, and what was so at them. A moment is the history up to it.
use Rattle.std.specs.Prelude.{◌≡◌, ℕ, List, [], ◌∷◌, ◌++◌, Some, ⊤}
use Rattle.outside.specs.World.{Event, create, append, rename, remove, look, miss, unlisted, History, names, file_at}

-- the history goes on, by steps of others or by events of the agent's own
pub record IsLater (old new : History) : Type 0 where
  pub events : List Event
  pub goes_on : new ≡ events ++ old

-- the file was looked at when the history had come to this moment
pub record LookAt (history : History) (file : ℕ) (moment : History) : Type 0 where
  pub later : List Event
  pub split : history ≡ later ++ look file ∷ moment

abbrev pub IsNamed : History → List ℕ → ℕ → Type 0
IsNamed moment path file = file_at (names moment) path ≡ Some file

-- the path names this one file from the first of these moments to the second
abbrev pub NamesThroughout : History → History → List ℕ → ℕ → Type 0
NamesThroughout old new path file = (moment : History) → IsLater old moment → IsLater moment new → IsNamed moment path file

-- no name is given or taken from the first of these moments to the second
abbrev pub KeepsNames : History → History → Type 0
KeepsNames old new = (moment : History) → IsLater old moment → IsLater moment new → names moment ≡ names old

-- none of the events gives a name or takes one
abbrev pub LeaveNames : List Event → Type 0
LeaveNames [] = ⊤
LeaveNames (create _ _ ∷ before) = ⊥
LeaveNames (append _ _ ∷ before) = LeaveNames before
LeaveNames (rename _ _ ∷ before) = ⊥
LeaveNames (remove _ ∷ before) = ⊥
LeaveNames (look _ ∷ before) = LeaveNames before
LeaveNames (miss _ ∷ before) = LeaveNames before
LeaveNames (unlisted _ ∷ before) = LeaveNames before
