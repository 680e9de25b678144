-- What `open_file` answers, and what it adds to the history.
use Rattle.std.specs.Prelude.{◌≡◌, ℕ, ◌≤◌, List, [], ◌∷◌, length, None, Some, Result, Ok, Err}
use Rattle.outside.specs.World.{Event, look, miss, History, names, bytes, file_at, World}
use Rattle.outside.specs.Moment.{AtOneMoment}
use Rattle.outside.specs.Listing.{kind_at}
use Rattle.outside.specs.Reading.{file_of}
use Rattle.outside.specs.declared.fault.CallFault.{CallFault}
use Rattle.outside.specs.declared.fault.CallFault.TheVariants.{Failed, Memory}
use Rattle.outside.specs.declared.tree.Kind.TheVariants.{Folder}
use Rattle.outside.specs.declared.tree.Opened.{Opened}
use Rattle.outside.specs.declared.tree.Opened.TheVariants.{File, Gone, NotAFile}

-- the path names this file, and the size is its length
pub record IsLook (path : List ℕ) (file size : ℕ) (history : History) : Type 0 where
  pub named : file_at (names history) path ≡ Some file
  pub length_then : size ≡ length (bytes history file)

-- a file was opened, and the handle, which was none of an open file, stands for it
pub record OpensFile (path : List ℕ) (handle size : ℕ) (old new : World) : Type 0 where
  pub file : ℕ
  pub is_new : file_of old.handles handle ≡ None
  pub handles : new.handles ≡ (handle, file) ∷ old.handles
  pub history : AtOneMoment (look file ∷ []) (IsLook path file size) old.history new.history

-- no file was opened
pub record OpensNothing (own : List Event) (fact : History → Type 0) (old new : World) : Type 0 where
  pub handles : new.handles ≡ old.handles
  pub history : AtOneMoment own fact old.history new.history

abbrev pub Opens : List ℕ → Result Opened CallFault → World → World → Type 0
Opens path (Ok (File handle size)) old new = OpensFile path handle.0 size old new
Opens path (Ok Gone) old new = OpensNothing [] (λ history. kind_at (names history) path ≡ None) old new
Opens path (Ok NotAFile) old new = OpensNothing [] (λ history. kind_at (names history) path ≡ Some Folder) old new
Opens path (Err Failed) old new = OpensNothing (miss path ∷ []) (λ _. Unit {0}) old new
Opens path (Err Memory) old new = OpensNothing [] (λ _. Unit {0}) old new

abbrev pub largest_size : ℕ
largest_size = 4611686018427387904

abbrev pub IsSize : Opened → Type 0
IsSize (File _ size) = size ≤ largest_size
IsSize Gone = Unit {0}
IsSize NotAFile = Unit {0}
