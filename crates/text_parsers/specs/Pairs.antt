-- Texts of keys and values, as `level=info msg="it began"`.
use Rattle.std.specs.Prelude.{◌≡◌, ◌≢◌, ℕ, ◌+◌, List, [], ◌∷◌, take, drop, None}
use Rattle.entry_model.specs.Datum.{text, Members, members_of}
use Rattle.json_text.specs.Grammar.{Member, put_all}
use Rattle.text_parsers.specs.declared.fault.ParseFault.{ParseFault}
use Rattle.text_parsers.specs.declared.fault.ParseFault.TheVariants.{NoDelimiter, Syntax, Memory}
use Rattle.text_parsers.specs.Blanks.{trimmed}
use Rattle.text_parsers.specs.Cuts.{Delimiter, delimiter_len, IsUncut, IsFirstCut}
use Rattle.text_parsers.specs.Pieces.{Piece, ArePieces, filled}
use Rattle.text_parsers.specs.Quotes.{open_quote, IsUnclosed, unquoted}

-- what parts a key from its value, and what parts pairs
pub record Delimiters : Type 0 where
  pub within : Delimiter
  pub between : Delimiter

-- without blanks, and then without a pair of quotes around it
abbrev pub cleaned : List ℕ → List ℕ
cleaned part = unquoted (trimmed part)

-- the piece is a key and a value
pub record IsPair (within : Delimiter) (bytes key value : List ℕ) : Type 0 where
  pub at : ℕ
  pub first : IsFirstCut within bytes at
  pub key_is : key ≡ cleaned (take at bytes)
  pub value_is : value ≡ cleaned (drop (at + delimiter_len within) bytes)
  pub named : key ≢ []

-- the pieces are these pairs, in turn
pub data ArePairs (within : Delimiter) : List Piece → List Member → Type 0 where
  no_pairs : ArePairs within [] []
  one_pair : {one : Piece} {pieces : List Piece} {key value : List ℕ} {members : List Member} → IsPair within one.bytes key value
      → ArePairs within pieces members → ArePairs within (one ∷ pieces) ((key, text value) ∷ members)

-- what comes of the members at one piece more
abbrev pub TakesPiece : Delimiter → Piece → List Member → List Member → Type 0
TakesPiece within one old new = (pairs : List Member) × ArePairs within (filled (one ∷ [])) pairs × (new ≡ put_all old pairs)

-- why the piece is no pair
pub data IsPieceFault (within : Delimiter) (one : Piece) : ParseFault → Type 0 where
  no_delimiter : IsUncut within one.bytes → IsPieceFault within one (NoDelimiter one.at)
  no_key : {at : ℕ} → IsFirstCut within one.bytes at → cleaned (take at one.bytes) ≡ [] → IsPieceFault within one (Syntax one.at)

-- the first piece that is no pair has this fault
pub data IsFirstFault (within : Delimiter) : List Piece → ParseFault → Type 0 where
  here : {one : Piece} {pieces : List Piece} {fault : ParseFault} → IsPieceFault within one fault → IsFirstFault within (one ∷ pieces) fault
  behind : {one : Piece} {pieces : List Piece} {key value : List ℕ} {fault : ParseFault} → IsPair within one.bytes key value
      → IsFirstFault within pieces fault → IsFirstFault within (one ∷ pieces) fault

-- the text is cut into these pieces, and each quote in it is closed
pub record IsCutInto (delimiters : Delimiters) (front : List ℕ) (pieces : List Piece) : Type 0 where
  pub closed : open_quote front ≡ None
  pub raw : List Piece
  pub are : ArePieces delimiters.between 0 front raw
  pub filled_are : pieces ≡ filled raw

-- the text is one pair or more; of a key that comes again the last value stays
pub record IsPairsText (delimiters : Delimiters) (members : Members) (front : List ℕ) : Type 0 where
  pub pieces : List Piece
  pub cut : IsCutInto delimiters front pieces
  pub some : pieces ≢ []
  pub pairs : List Member
  pub are : ArePairs delimiters.within pieces pairs
  pub members_are : members ≡ members_of (put_all [] pairs)

-- a quote that isn't closed comes before all others, and then the first piece that is no pair
pub data IsPairsFault (delimiters : Delimiters) (front : List ℕ) : ParseFault → Type 0 where
  unclosed : {at : ℕ} → IsUnclosed front at → IsPairsFault delimiters front (Syntax at)
  no_pieces : IsCutInto delimiters front [] → IsPairsFault delimiters front (NoDelimiter 0)
  no_pair : {pieces : List Piece} {fault : ParseFault} → IsCutInto delimiters front pieces → IsFirstFault delimiters.within pieces fault
      → IsPairsFault delimiters front fault
  no_memory : IsPairsFault delimiters front Memory
