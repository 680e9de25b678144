-- What a call of the tree adds to the history.
use Rattle.std.proofs.Common.{◌≡◌, ℕ, List, [], ◌∷◌, ◌++◌, Bool, true, false, length, max, Result, Ok, Err, refl, sym, ap, subst}
use Rattle.std.specs.Prelude.{if◌then◌else◌, None, Some}
use Rattle.outside.specs.Closing.{Closes}
use Rattle.outside.specs.Content.{Gives}
use Rattle.outside.specs.Count.{raised, HasCause, HasOneCause}
use Rattle.outside.specs.World.{Event, look, miss, unlisted, History, names}
use Rattle.outside.specs.Lawful.{is_lawful}
use Rattle.outside.specs.Moment.{Moves, AtOneMoment}
use Rattle.outside.specs.Listing.{Lists, is_folder, kind_at, IsListing, nameless_after, newly_listed}
use Rattle.outside.specs.Opening.{Opens, IsLook}
use Rattle.outside.specs.Reading.{Reads, bytes_if, file_of, taken_after}
use Rattle.outside.specs.declared.fault.CallFault.{CallFault}
use Rattle.outside.specs.declared.fault.CallFault.TheVariants.{Failed, Memory}
use Rattle.outside.specs.declared.fault.Failed as one
use Rattle.outside.specs.declared.tree.Listed.{Listed}
use Rattle.outside.specs.declared.tree.Listed.TheVariants.{Items, Gone as gone}
use Rattle.outside.specs.declared.tree.Opened.{Opened}
use Rattle.outside.specs.declared.tree.Opened.TheVariants.{File, Gone, NotAFile}
use Rattle.outside.specs.declared.tree.Kind.TheVariants.{Folder}
use Rattle.outside.proofs.Moving.{moves_none, moves_then}
use Rattle.mem_world.specs.TreePlan.{played, due_at}
use Rattle.mem_world.specs.TreeTold.{TreeState, bound_of}
use Rattle.mem_world.specs.TreeCalls.{ListCalls, OpenFileCalls, ReadAtCalls, CloseCalls, Called, Stays, history_then}

pub moves_played : (history : History) (steps : List Event) → Moves history (played history steps)
moves_played history [] = moves_none history
moves_played history (step ∷ steps) =
    let P : Bool → Type 0 = λ t. is_lawful history step ≡ t → Moves history (played (if t then step ∷ history else history) steps) in
    let yes : P true = λ lawful. moves_then (record { steps = step ∷ []; goes_on = refl; lawful = (lawful, tt) }) (moves_played (step ∷ history) steps) in
    let no : P false = λ _. moves_played history steps in
    let all : P (is_lawful history step) = elim (is_lawful history step) as P [ true ↦ yes | false ↦ no ] in
    all refl

pub at_called : (own : List Event) (fact : History → Type 0) (fails : Bool) (old new : TreeState) → Called own fails old new → fact (history_then old) → AtOneMoment own fact old.world.history new.world.history
at_called own fact fails old new called holds = record {
  moment = history_then old;
  before = moves_played old.world.history (due_at 0 old.waiting);
  holds = holds;
  after = record { steps = []; goes_on = called.history; lawful = tt };
}

pub moves_called : (fails : Bool) (old new : TreeState) → Called [] fails old new → Moves old.world.history new.world.history
moves_called fails old new called =
    let P : History → Type 0 = λ h. Moves old.world.history h in
    subst P (sym called.history) (moves_played old.world.history (due_at 0 old.waiting))

-- what no call but a read changes, and no call at all
pub record Keeps (old new : TreeState) : Type 0 where
  pub taken : new.taken ≡ old.taken
  pub widest : new.widest ≡ old.widest
  pub plan : new.plan ≡ old.plan
  pub bound : bound_of new ≡ bound_of old
  pub told : new.told ≡ old.told

stays_keeps : (own : List Event) (fails : Bool) (folders : List (List ℕ)) (old new : TreeState) → Stays own fails folders old new → Keeps old new
stays_keeps own fails folders old new stays = record { taken = stays.taken; widest = stays.widest; plan = stays.called.plan; bound = stays.called.bound; told = stays.called.told }

pub lists_world : (folder : List ℕ) (result : Result Listed CallFault) (old new : TreeState) → ListCalls folder result old new → Lists folder result old.world new.world
lists_world folder (Ok (Items items unnamed)) old new calls = record { handles = calls.3.handles; history = (calls.1, at_called [] (IsListing folder items.items) false old new calls.3.called calls.2) }
lists_world folder (Ok gone) old new calls = record { handles = calls.2.handles; history = at_called [] (λ h. is_folder (names h) folder ≡ false) false old new calls.2.called calls.1 }
lists_world folder (Err Failed) old new calls = record { handles = calls.1.handles; history = at_called (unlisted folder ∷ []) (λ _. Unit {0}) true old new calls.1.called tt }
lists_world folder (Err Memory) old new calls = record { handles = calls.handles; history = moves_called false old new calls.called }

pub lists_cause : (folder : List ℕ) (result : Result Listed CallFault) (old new : TreeState) → ListCalls folder result old new → HasCause result old.faults new.faults
lists_cause folder (Ok (Items items unnamed)) old new calls = calls.3.called.faults
lists_cause folder (Ok gone) old new calls = calls.2.called.faults
lists_cause folder (Err Failed) old new calls = calls.1.called.faults.1
lists_cause folder (Err Memory) old new calls = calls.called.faults

pub lists_nameless : (folder : List ℕ) (result : Result Listed CallFault) (old new : TreeState) → ListCalls folder result old new → 0 ≡ nameless_after result 0
lists_nameless folder (Ok (Items items unnamed)) old new calls = sym (ap (raised 0) calls.1)
lists_nameless folder (Ok gone) old new calls = refl
lists_nameless folder (Err Failed) old new calls = refl
lists_nameless folder (Err Memory) old new calls = refl

pub lists_keeps : (folder : List ℕ) (result : Result Listed CallFault) (old new : TreeState) → ListCalls folder result old new → Keeps old new
lists_keeps folder (Ok (Items items unnamed)) old new calls = stays_keeps [] false (folder ∷ []) old new calls.3
lists_keeps folder (Ok gone) old new calls = stays_keeps [] false (folder ∷ []) old new calls.2
lists_keeps folder (Err Failed) old new calls = stays_keeps (unlisted folder ∷ []) true (folder ∷ []) old new calls.1
lists_keeps folder (Err Memory) old new calls = stays_keeps [] false [] old new calls

-- what is told as listed
pub lists_listed : (folder : List ℕ) (result : Result Listed CallFault) (old new : TreeState) → ListCalls folder result old new → new.listed ≡ newly_listed folder result ++ old.listed
lists_listed folder (Ok (Items items unnamed)) old new calls = calls.3.listed
lists_listed folder (Ok gone) old new calls = calls.2.listed
lists_listed folder (Err Failed) old new calls = calls.1.listed
lists_listed folder (Err Memory) old new calls = calls.listed

pub opens_world : (path : List ℕ) (result : Result Opened CallFault) (old new : TreeState) → OpenFileCalls path result old new → Opens path result old.world new.world
opens_world path (Ok (File handle size)) old new calls = record {
  file = calls.1.file;
  is_new = calls.1.is_new;
  handles = calls.1.handles;
  history = at_called (look calls.1.file ∷ []) (IsLook path calls.1.file size) false old new calls.1.called calls.1.found;
}
opens_world path (Ok Gone) old new calls = record { handles = calls.2.handles; history = at_called [] (λ h. kind_at (names h) path ≡ None) false old new calls.2.called calls.1 }
opens_world path (Ok NotAFile) old new calls = record { handles = calls.2.handles; history = at_called [] (λ h. kind_at (names h) path ≡ Some Folder) false old new calls.2.called calls.1 }
opens_world path (Err Failed) old new calls = record { handles = calls.1.handles; history = at_called (miss path ∷ []) (λ _. Unit {0}) true old new calls.1.called tt }
opens_world path (Err Memory) old new calls = record { handles = calls.handles; history = at_called [] (λ _. Unit {0}) false old new calls.called tt }

pub opens_cause : (path : List ℕ) (result : Result Opened CallFault) (old new : TreeState) → OpenFileCalls path result old new → HasCause result old.faults new.faults
opens_cause path (Ok (File handle size)) old new calls = calls.1.called.faults
opens_cause path (Ok Gone) old new calls = calls.2.called.faults
opens_cause path (Ok NotAFile) old new calls = calls.2.called.faults
opens_cause path (Err Failed) old new calls = calls.1.called.faults.1
opens_cause path (Err Memory) old new calls = calls.called.faults

pub opens_listed : (path : List ℕ) (result : Result Opened CallFault) (old new : TreeState) → OpenFileCalls path result old new → new.listed ≡ old.listed
opens_listed path (Ok (File handle size)) old new calls = calls.1.listed
opens_listed path (Ok Gone) old new calls = calls.2.listed
opens_listed path (Ok NotAFile) old new calls = calls.2.listed
opens_listed path (Err Failed) old new calls = calls.1.listed
opens_listed path (Err Memory) old new calls = calls.listed

pub opens_keeps : (path : List ℕ) (result : Result Opened CallFault) (old new : TreeState) → OpenFileCalls path result old new → Keeps old new
opens_keeps path (Ok (File handle size)) old new calls = record { taken = calls.1.taken; widest = calls.1.widest; plan = calls.1.called.plan; bound = calls.1.called.bound; told = calls.1.called.told }
opens_keeps path (Ok Gone) old new calls = stays_keeps [] false [] old new calls.2
opens_keeps path (Ok NotAFile) old new calls = stays_keeps [] false [] old new calls.2
opens_keeps path (Err Failed) old new calls = stays_keeps (miss path ∷ []) true [] old new calls.1
opens_keeps path (Err Memory) old new calls = stays_keeps [] false [] old new calls

module _ (handle offset : ℕ) (buffer : List ℕ) where
  pub reads_world : (result : Result ℕ one.Failed) (old new : TreeState) → ReadAtCalls handle offset buffer result old new → Reads handle offset buffer result old.world new.world
  reads_world (Ok count) old new calls = record {
    handles = calls.2.handles;
    history = at_called [] (λ h. Gives (bytes_if h (file_of old.world.handles handle)) offset buffer count) false old new calls.2.called calls.1;
  }
  reads_world (Err _) old new calls = record { handles = calls.1.handles; history = moves_called true old new calls.1.called }

  pub reads_cause : (result : Result ℕ one.Failed) (old new : TreeState) → ReadAtCalls handle offset buffer result old new → HasOneCause result old.faults new.faults
  reads_cause (Ok count) old new calls = calls.2.called.faults
  reads_cause (Err _) old new calls = calls.1.called.faults.1

  pub reads_taken : (result : Result ℕ one.Failed) (old new : TreeState) → ReadAtCalls handle offset buffer result old new → new.taken ≡ taken_after result old.taken
  reads_taken (Ok count) old new calls = calls.2.taken
  reads_taken (Err _) old new calls = calls.1.taken

  -- what a read keeps, and how wide it was
  pub reads_widest : (result : Result ℕ one.Failed) (old new : TreeState) → ReadAtCalls handle offset buffer result old new → (new.widest ≡ max old.widest (length buffer)) × (new.plan ≡ old.plan) × (bound_of new ≡ bound_of old) × (new.told ≡ old.told)
  reads_widest (Ok count) old new calls = (calls.2.widest, calls.2.called.plan, calls.2.called.bound, calls.2.called.told)
  reads_widest (Err _) old new calls = (calls.1.widest, calls.1.called.plan, calls.1.called.bound, calls.1.called.told)

  pub reads_listed : (result : Result ℕ one.Failed) (old new : TreeState) → ReadAtCalls handle offset buffer result old new → new.listed ≡ old.listed
  reads_listed (Ok count) old new calls = calls.2.listed
  reads_listed (Err _) old new calls = calls.1.listed

pub closes_world : (handle : ℕ) (old new : TreeState) → CloseCalls handle old new → Closes handle old.world new.world
closes_world handle old new calls = record { handles = calls.handles; history = moves_called false old new calls.called }
