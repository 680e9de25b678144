-- What each call of a tree in memory does.
use Rattle.std.specs.Prelude.{◌≡◌, ℕ, List, [], ◌∷◌, ◌++◌, length, max, filter, not, ◌==◌, Bool, true, false, None, Some, Result, Ok, Err}
use Rattle.outside.specs.Content.{Gives}
use Rattle.outside.specs.Count.{raised, Rose}
use Rattle.outside.specs.Listing.{is_folder, kind_at, IsListing}
use Rattle.outside.specs.Opening.{IsLook}
use Rattle.outside.specs.Reading.{bytes_if, file_of}
use Rattle.outside.specs.World.{Event, look, miss, unlisted, History, names}
use Rattle.outside.specs.declared.fault.CallFault.{CallFault}
use Rattle.outside.specs.declared.fault.CallFault.TheVariants.{Failed, Memory}
use Rattle.outside.specs.declared.fault.Failed as one
use Rattle.outside.specs.declared.tree.Kind.TheVariants.{Folder}
use Rattle.outside.specs.declared.tree.Listed.{Listed}
use Rattle.outside.specs.declared.tree.Listed.TheVariants.{Items, Gone as gone}
use Rattle.outside.specs.declared.tree.Opened.{Opened}
use Rattle.outside.specs.declared.tree.Opened.TheVariants.{File, Gone, NotAFile}
use Rattle.mem_world.specs.TreeFailures.{is_reached, one_later}
use Rattle.mem_world.specs.TreePlan.{played, due_at, not_due_at, left_after}
use Rattle.mem_world.specs.TreeTold.{TreeState, bound_of}

-- the next call is one that was set to fail
abbrev pub is_to_fail : TreeState → Bool
is_to_fail tree = is_reached tree.failing

-- what the next call finds: the steps that are due have been played
abbrev pub history_then : TreeState → History
history_then tree = played tree.world.history (due_at 0 tree.waiting)

abbrev pub HasCounted : Bool → ℕ → ℕ → Type 0
HasCounted true before after = (after ≡ raised before 1) × Rose before after
HasCounted false before after = after ≡ before

-- A call was made. The steps that were due were played before the agent's own events, all that is planned is one call
-- nearer, and the count of faults rose where the call failed.
pub record Called (own : List Event) (fails : Bool) (old new : TreeState) : Type 0 where
  pub history : new.world.history ≡ own ++ history_then old
  pub waiting : new.waiting ≡ left_after 1 (not_due_at 0 old.waiting)
  pub plan : new.plan ≡ old.plan
  pub failing : new.failing ≡ one_later old.failing
  pub faults : HasCounted fails old.faults new.faults
  pub bound : bound_of new ≡ bound_of old
  pub told : new.told ≡ old.told

-- Nothing else was done, but that these folders are told as listed.
pub record Stays (own : List Event) (fails : Bool) (folders : List (List ℕ)) (old new : TreeState) : Type 0 where
  pub called : Called own fails old new
  pub handles : new.world.handles ≡ old.world.handles
  pub taken : new.taken ≡ old.taken
  pub widest : new.widest ≡ old.widest
  pub listed : new.listed ≡ folders ++ old.listed

-- A listing fails where it was set to.
abbrev pub ListCalls : List ℕ → Result Listed CallFault → TreeState → TreeState → Type 0
ListCalls folder (Ok (Items items unnamed)) old new = (is_to_fail old ≡ false) × (unnamed ≡ 0) × IsListing folder items.items (history_then old) × Stays [] false (folder ∷ []) old new
ListCalls folder (Ok gone) old new = (is_to_fail old ≡ false) × (is_folder (names (history_then old)) folder ≡ false) × Stays [] false (folder ∷ []) old new
ListCalls folder (Err Failed) old new = (is_to_fail old ≡ true) × Stays (unlisted folder ∷ []) true (folder ∷ []) old new
ListCalls folder (Err Memory) old new = Stays [] false [] old new

-- a file was opened, under a handle that was none of an open file
pub record OpenCalls (path : List ℕ) (handle size : ℕ) (old new : TreeState) : Type 0 where
  pub file : ℕ
  pub found : IsLook path file size (history_then old)
  pub called : Called (look file ∷ []) false old new
  pub is_new : file_of old.world.handles handle ≡ None
  pub handles : new.world.handles ≡ (handle, file) ∷ old.world.handles
  pub taken : new.taken ≡ old.taken
  pub widest : new.widest ≡ old.widest
  pub listed : new.listed ≡ old.listed

-- An opening fails where it was set to.
abbrev pub OpenFileCalls : List ℕ → Result Opened CallFault → TreeState → TreeState → Type 0
OpenFileCalls path (Ok (File handle size)) old new = (is_to_fail old ≡ false) × OpenCalls path handle.0 size old new
OpenFileCalls path (Ok Gone) old new = (is_to_fail old ≡ false) × (kind_at (names (history_then old)) path ≡ None) × Stays [] false [] old new
OpenFileCalls path (Ok NotAFile) old new = (is_to_fail old ≡ false) × (kind_at (names (history_then old)) path ≡ Some Folder) × Stays [] false [] old new
OpenFileCalls path (Err Failed) old new = (is_to_fail old ≡ true) × Stays (miss path ∷ []) true [] old new
OpenFileCalls path (Err Memory) old new = Stays [] false [] old new

-- a read was made
pub record ReadCalls (wide total : ℕ) (fails : Bool) (old new : TreeState) : Type 0 where
  pub called : Called [] fails old new
  pub handles : new.world.handles ≡ old.world.handles
  pub taken : new.taken ≡ total
  pub widest : new.widest ≡ max old.widest wide
  pub listed : new.listed ≡ old.listed

-- A read fails where it was set to.
abbrev pub ReadAtCalls : ℕ → ℕ → List ℕ → Result ℕ one.Failed → TreeState → TreeState → Type 0
ReadAtCalls handle offset buffer (Ok count) old new = (is_to_fail old ≡ false) × Gives (bytes_if (history_then old) (file_of old.world.handles handle)) offset buffer count × ReadCalls (length buffer) (raised old.taken count) false old new
ReadAtCalls handle offset buffer (Err _) old new = (is_to_fail old ≡ true) × ReadCalls (length buffer) old.taken true old new

-- A close can't fail: one that was set to is used up.
pub record CloseCalls (handle : ℕ) (old new : TreeState) : Type 0 where
  pub called : Called [] false old new
  pub handles : new.world.handles ≡ filter (λ pair. not (pair.0 == handle)) old.world.handles
  pub taken : new.taken ≡ old.taken
  pub widest : new.widest ≡ old.widest
  pub listed : new.listed ≡ old.listed
