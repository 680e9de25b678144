-- Bytes that are read of an open file while the world moves.
use Rattle.std.specs.Prelude.{◌≡◌, ℕ, ◌≤◌, List, length, take, drop, Some}
use Rattle.outside.specs.Moment.{Moves}
use Rattle.outside.specs.Reading.{file_of}
use Rattle.outside.specs.World.{World, bytes}
use Rattle.file_pass.specs.declared.ending.Ending.{Ending}
use Rattle.file_pass.specs.declared.ending.Ending.TheVariants.{Shrunk}
use Rattle.file_pass.specs.declared.ending.OpenFile.{OpenFile}

-- Bytes that were read of a file from the one place on, up to the other at most, and how that ended.
pub record Piece : Type 0 where
  pub handle : ℕ
  pub from : ℕ
  pub last : ℕ
  pub given : List ℕ
  pub ending : Ending

abbrev pub piece_at : ℕ → ℕ → ℕ → List ℕ → Ending → Piece
piece_at handle from last given ending = record { handle = handle; from = from; last = last; given = given; ending = ending }

-- of a file that has the size with which it was opened
abbrev pub piece_of : OpenFile → ℕ → List ℕ → Ending → Piece
piece_of file from given ending = piece_at file.handle.0 from file.size given ending

-- The handle stands for this file, which has all bytes up to that place.
pub record HasBytes (handle last : ℕ) (world : World) (file : ℕ) : Type 0 where
  pub is : file_of world.handles handle ≡ Some file
  pub long : last ≤ length (bytes world.history file)

-- These are the file's bytes, which were there at the beginning, and no file is found to be shorter than it was.
pub record Reads (piece : Piece) (old new : World) : Type 0 where
  pub handles : new.handles ≡ old.handles
  pub moves : Moves old.history new.history
  pub are : (file : ℕ) → HasBytes piece.handle piece.last old file → piece.given ≡ take (length piece.given) (drop piece.from (bytes old.history file))
  pub grows : (file : ℕ) → HasBytes piece.handle piece.last old file → piece.ending ≡ Shrunk → ⊥
