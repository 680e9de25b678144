-- The members that a text says, computed. `laws` has that they are those of the grammars of the crate text_parsers.
use Rattle.std.specs.Prelude.{ℕ, zero, suc, ◌+◌, ◌==◌, ◌&&◌, nat_lt, is_none, if◌then◌else◌, Bool, List, [], ◌∷◌, length, take, drop, Option, None, Some}
use Rattle.entry_model.specs.Datum.{Datum, null, boolean, int, text, list, fields, Members, members_of}
use Rattle.json_text.specs.Grammar.{Member, put_all}
use Rattle.json_text.specs.Machine.{Outcome, reads, syntax_at, too_deep_at, outcome, start}
use Rattle.regex.specs.Writes.{group_of}
use Rattle.regex_hir.specs.Find.{Match}
use Rattle.text_parsers.specs.CsvRecords.{Columns, records_of, named}
use Rattle.text_parsers.specs.Cuts.{Delimiter, delimiter_len, begins_with}
use Rattle.text_parsers.specs.Pairs.{Delimiters, cleaned}
use Rattle.text_parsers.specs.Pieces.{Piece, piece, filled}
use Rattle.text_parsers.specs.Quotes.{open_quote}
use Rattle.text_parsers.specs.Groups.{found_in, reading, members_by, named_groups, names_in}

-- how a text is read
pub data Reader : Type 0 where
  -- the named groups of a pattern, in its leftmost match
  by_pattern : (pattern : List ℕ) → Reader
  -- the members of one JSON object
  as_json : Reader
  -- the fields of one CSV record, by the names of columns
  as_record : (columns : Columns) → Reader
  -- keys with values
  as_pairs : (delimiters : Delimiters) → Reader

abbrev pub members_if_map : Datum → Option Members
members_if_map null = None
members_if_map (boolean b) = None
members_if_map (int z) = None
members_if_map (text bytes) = None
members_if_map (list items) = None
members_if_map (fields members) = Some members

abbrev pub of_outcome : Outcome → Option Members
of_outcome (reads value) = members_if_map value
of_outcome (syntax_at at) = None
of_outcome (too_deep_at at) = None

-- the members of the object that a text is, nested at most 64 deep
unfoldable pub object_in : List ℕ → Option Members
object_in bytes = of_outcome (outcome (start 64) bytes 0)

abbrev pub of_match : List ℕ → List ℕ → Option Match → Option Members
of_match pattern bytes None = None
of_match pattern bytes (Some found) = Some (members_of (put_all [] (members_by (group_of found) bytes (named_groups (names_in (reading pattern))))))

-- the texts of a pattern's named groups
unfoldable pub groups_in : List ℕ → List ℕ → Option Members
groups_in pattern bytes = of_match pattern bytes (found_in (reading pattern) bytes)

-- ---- one CSV record

abbrev pub of_records : Columns → List (List (List ℕ)) → Option Members
of_records columns [] = None
of_records columns (row ∷ []) = if length row == length columns.names then Some (members_of (put_all [] (named columns.names row))) else None
of_records columns (row ∷ next ∷ more) = None

-- the fields of the one record that a text is, by the names of the columns
unfoldable pub record_in : Columns → List ℕ → Option Members
record_in columns bytes = of_records columns (records_of columns.delimiter bytes)

-- ---- keys and values

-- the first of so many numbers from one on that passes
abbrev pub first_from : (ℕ → Bool) → ℕ → ℕ → Option ℕ
first_from test zero from = None
first_from test (suc count) from = if test from then Some from else first_from test count (from + 1)

-- whether the delimiter stands at a place, outside of quoted parts
abbrev pub stands : Delimiter → List ℕ → ℕ → Bool
stands delimiter bytes at = nat_lt at (length bytes) && (is_none (open_quote (take at bytes)) && begins_with delimiter (drop at bytes))

unfoldable pub first_cut : Delimiter → List ℕ → Option ℕ
first_cut delimiter bytes = first_from (stands delimiter bytes) (length bytes) 0

-- what stands from this place on, cut where the first cut is, if any, and behind it as the others are cut
abbrev pub cut_at : Option ℕ → Delimiter → ℕ → List ℕ → (ℕ → List ℕ → List Piece) → List Piece
cut_at None delimiter at bytes others = piece at bytes ∷ []
cut_at (Some k) delimiter at bytes others = piece at (take k bytes) ∷ others (at + (k + delimiter_len delimiter)) (drop (k + delimiter_len delimiter) bytes)

-- the pieces between delimiters, no more than so many behind the first
abbrev pub pieces_by : ℕ → Delimiter → ℕ → List ℕ → List Piece
pieces_by zero delimiter at bytes = piece at bytes ∷ []
pieces_by (suc count) delimiter at bytes = cut_at (first_cut delimiter bytes) delimiter at bytes (pieces_by count delimiter)

unfoldable pub pieces_in : Delimiter → List ℕ → List Piece
pieces_in delimiter bytes = pieces_by (length bytes) delimiter 0 bytes

-- a key that is none names nothing
abbrev pub with_key : List ℕ → List ℕ → Option Member
with_key [] value = None
with_key (byte ∷ key) value = Some ((byte ∷ key), text value)

abbrev pub pair_at : Option ℕ → Delimiter → List ℕ → Option Member
pair_at None within bytes = None
pair_at (Some k) within bytes = with_key (cleaned (take k bytes)) (cleaned (drop (k + delimiter_len within) bytes))

abbrev pub and_pairs : Option Member → Option (List Member) → Option (List Member)
and_pairs None others = None
and_pairs (Some first) None = None
and_pairs (Some first) (Some others) = Some (first ∷ others)

-- each piece is a key and a value
abbrev pub pairs_of : Delimiter → List Piece → Option (List Member)
pairs_of within [] = Some []
pairs_of within (one ∷ pieces) = and_pairs (pair_at (first_cut within one.bytes) within one.bytes) (pairs_of within pieces)

abbrev pub members_by_pairs : Option (List Member) → Option Members
members_by_pairs None = None
members_by_pairs (Some pairs) = Some (members_of (put_all [] pairs))

-- of one piece or more
abbrev pub of_pieces : Delimiter → List Piece → Option Members
of_pieces within [] = None
of_pieces within (one ∷ pieces) = members_by_pairs (pairs_of within (one ∷ pieces))

-- where each quote is closed
abbrev pub if_closed : Option ℕ → Option Members → Option Members
if_closed None said = said
if_closed (Some quote) said = None

unfoldable pub pairs_in : Delimiters → List ℕ → Option Members
pairs_in delimiters bytes = if_closed (open_quote bytes) (of_pieces delimiters.within (filled (pieces_in delimiters.between bytes)))

abbrev pub said_by : Reader → List ℕ → Option Members
said_by (by_pattern pattern) bytes = groups_in pattern bytes
said_by as_json bytes = object_in bytes
said_by (as_record columns) bytes = record_in columns bytes
said_by (as_pairs delimiters) bytes = pairs_in delimiters bytes

-- what a value says, which has to be a text
abbrev pub said : Reader → Datum → Option Members
said reader null = None
said reader (boolean b) = None
said reader (int z) = None
said reader (text bytes) = said_by reader bytes
said reader (list items) = None
said reader (fields under) = None
