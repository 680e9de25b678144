-- Strings of JSON, and the end of a line of Docker as Docker writes it.
use Rattle.std.specs.Prelude.{◌≡◌, ℕ, ◌<◌, List, ◌∷◌, ◌++◌, codes, Some}
use Rattle.json_text.specs.declared.content.Piece.{Piece}
use Rattle.json_text.specs.Bytes.{escaped}
use Rattle.json_text.specs.Grammar.{IsContent}
use Rattle.json_text.specs.Pieces.{text_of}

-- behind a first quote the bytes spell the content up to a second one, and the rest is behind that
pub record Spells (bytes content rest : List ℕ) : Type 0 where
  pub pieces : List Piece
  pub is : IsContent bytes pieces rest
  pub content_is : text_of pieces ≡ content

-- an escape of two bytes
pub record IsEscape (bytes : List ℕ) (meant : ℕ) (rest : List ℕ) : Type 0 where
  pub byte : ℕ
  pub is : bytes ≡ 92 ∷ byte ∷ rest
  pub meant_is : escaped byte ≡ Some meant
  pub ascii : meant < 128

-- what stands behind the log: the stream and the time
pub record IsTail (bytes stream time : List ℕ) : Type 0 where
  pub front : List ℕ
  pub is : bytes ≡ codes ",\"stream\":\"" ++ front
  pub behind : List ℕ
  pub stream_is : Spells front stream behind
  pub back : List ℕ
  pub goes_on : behind ≡ codes ",\"time\":\"" ++ back
  pub time_is : Spells back time (codes "}")
