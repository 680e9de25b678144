-- The grammar of JSON (RFC 8259). In `IsValue levels text value rest` and the relations beside it, the text spells the
-- value, with the rest behind it and at most so many lists and objects open at once.
use Rattle.std.specs.Prelude.{◌≡◌, ℕ, suc, ◌+◌, ◌*◌, true, false, List, [], ◌∷◌, ◌++◌, codes, Some}
use Rattle.std.specs.BTreeMap.{insert_entry}
use Rattle.std.specs.Cmp.Lexicographic.{slice_cmp}
use Rattle.std.specs.List.{list_all}
use Rattle.std.specs.Ordering.{nat_cmp}
use Rattle.entry_model.specs.Datum.{Datum, null, boolean, text, list, fields, items_of, members_of}
use Rattle.json_text.specs.declared.content.Piece.{Piece}
use Rattle.json_text.specs.declared.content.Piece.TheVariants as piece
use Rattle.json_text.specs.Bytes.{is_blank, is_plain, escaped, hex_value}
use Rattle.json_text.specs.Numbers.{IsNumber, number_of}
use Rattle.json_text.specs.Pieces.{text_of}

-- this many hexadecimal digits, with what stood before them as the value so far
pub data IsUnit : ℕ → ℕ → List ℕ → ℕ → List ℕ → Type 0 where
  no_digits : {value : ℕ} {rest : List ℕ} → IsUnit 0 value rest value rest
  a_digit : {count value byte one unit : ℕ} {front rest : List ℕ} → hex_value byte ≡ Some one
      → IsUnit count (value * 16 + one) front unit rest → IsUnit (suc count) value (byte ∷ front) unit rest

-- what stands behind the first quote of a string, with the second (section 7)
pub data IsContent : List ℕ → List Piece → List ℕ → Type 0 where
  a_quote : {rest : List ℕ} → IsContent (34 ∷ rest) [] rest
  a_plain : {byte : ℕ} {front rest : List ℕ} {pieces : List Piece} → is_plain byte ≡ true → IsContent front pieces rest
      → IsContent (byte ∷ front) (piece.Byte byte ∷ pieces) rest
  an_escape : {byte meant : ℕ} {front rest : List ℕ} {pieces : List Piece} → escaped byte ≡ Some meant → IsContent front pieces rest
      → IsContent (92 ∷ byte ∷ front) (piece.Byte meant ∷ pieces) rest
  a_unit : {unit : ℕ} {front next rest : List ℕ} {pieces : List Piece} → IsUnit 4 0 front unit next → IsContent next pieces rest
      → IsContent (92 ∷ 117 ∷ front) (piece.Unit unit ∷ pieces) rest

-- a name and its value
abbrev pub Member : Type 0
Member = List ℕ × Datum

-- the members with these put in behind them, in byte order of the names; of one name the last value stays
abbrev pub put_all : List Member → List Member → List Member
put_all members [] = members
put_all members (next ∷ rest) = put_all (insert_entry (slice_cmp nat_cmp) members next.0 next.1) rest

mutual
  pub data IsValue : ℕ → List ℕ → Datum → List ℕ → Type 0 where
    blank_value : {levels byte : ℕ} {front rest : List ℕ} {value : Datum} → is_blank byte ≡ true → IsValue levels front value rest
        → IsValue levels (byte ∷ front) value rest
    is_null : {levels : ℕ} {rest : List ℕ} → IsValue levels (codes "null" ++ rest) null rest
    is_true : {levels : ℕ} {rest : List ℕ} → IsValue levels (codes "true" ++ rest) (boolean true) rest
    is_false : {levels : ℕ} {rest : List ℕ} → IsValue levels (codes "false" ++ rest) (boolean false) rest
    is_number : {levels : ℕ} {front spelled rest : List ℕ} → IsNumber front spelled rest → IsValue levels front (number_of spelled) rest
    is_text : {levels : ℕ} {front rest : List ℕ} {pieces : List Piece} → IsContent front pieces rest
        → IsValue levels (34 ∷ front) (text (text_of pieces)) rest
    is_list : {levels : ℕ} {front rest : List ℕ} {items : List Datum} → IsFirstItem levels front items rest
        → IsValue (suc levels) (91 ∷ front) (list (items_of items)) rest
    is_map : {levels : ℕ} {front rest : List ℕ} {members : List Member} → IsFirstMember levels front members rest
        → IsValue (suc levels) (123 ∷ front) (fields (members_of (put_all [] members))) rest

  -- behind `[`
  pub data IsFirstItem : ℕ → List ℕ → List Datum → List ℕ → Type 0 where
    blank_item : {levels byte : ℕ} {front rest : List ℕ} {items : List Datum} → is_blank byte ≡ true
        → IsFirstItem levels front items rest → IsFirstItem levels (byte ∷ front) items rest
    no_item : {levels : ℕ} {rest : List ℕ} → IsFirstItem levels (93 ∷ rest) [] rest
    first_item : {levels : ℕ} {front next rest : List ℕ} {value : Datum} {items : List Datum} → IsValue levels front value next
        → IsNextItem levels next items rest → IsFirstItem levels front (value ∷ items) rest

  -- behind a value of a list
  pub data IsNextItem : ℕ → List ℕ → List Datum → List ℕ → Type 0 where
    blank_next : {levels byte : ℕ} {front rest : List ℕ} {items : List Datum} → is_blank byte ≡ true
        → IsNextItem levels front items rest → IsNextItem levels (byte ∷ front) items rest
    last_item : {levels : ℕ} {rest : List ℕ} → IsNextItem levels (93 ∷ rest) [] rest
    next_item : {levels : ℕ} {front next rest : List ℕ} {value : Datum} {items : List Datum} → IsValue levels front value next
        → IsNextItem levels next items rest → IsNextItem levels (44 ∷ front) (value ∷ items) rest

  -- behind `{`
  pub data IsFirstMember : ℕ → List ℕ → List Member → List ℕ → Type 0 where
    blank_first : {levels byte : ℕ} {front rest : List ℕ} {members : List Member} → is_blank byte ≡ true
        → IsFirstMember levels front members rest → IsFirstMember levels (byte ∷ front) members rest
    no_member : {levels : ℕ} {rest : List ℕ} → IsFirstMember levels (125 ∷ rest) [] rest
    first_member : {levels : ℕ} {front next rest : List ℕ} {name : List ℕ} {value : Datum} {members : List Member}
        → IsMember levels front name value next → IsNextMember levels next members rest
        → IsFirstMember levels front ((name, value) ∷ members) rest

  -- a name, a colon and a value
  pub data IsMember : ℕ → List ℕ → List ℕ → Datum → List ℕ → Type 0 where
    blank_name : {levels byte : ℕ} {front name rest : List ℕ} {value : Datum} → is_blank byte ≡ true
        → IsMember levels front name value rest → IsMember levels (byte ∷ front) name value rest
    a_name : {levels : ℕ} {front next rest : List ℕ} {pieces : List Piece} {value : Datum} → IsContent front pieces next
        → IsNamed levels next value rest → IsMember levels (34 ∷ front) (text_of pieces) value rest

  -- behind a name
  pub data IsNamed : ℕ → List ℕ → Datum → List ℕ → Type 0 where
    blank_colon : {levels byte : ℕ} {front rest : List ℕ} {value : Datum} → is_blank byte ≡ true
        → IsNamed levels front value rest → IsNamed levels (byte ∷ front) value rest
    a_colon : {levels : ℕ} {front rest : List ℕ} {value : Datum} → IsValue levels front value rest → IsNamed levels (58 ∷ front) value rest

  -- behind a member
  pub data IsNextMember : ℕ → List ℕ → List Member → List ℕ → Type 0 where
    blank_member : {levels byte : ℕ} {front rest : List ℕ} {members : List Member} → is_blank byte ≡ true
        → IsNextMember levels front members rest → IsNextMember levels (byte ∷ front) members rest
    last_member : {levels : ℕ} {rest : List ℕ} → IsNextMember levels (125 ∷ rest) [] rest
    next_member : {levels : ℕ} {front next rest : List ℕ} {name : List ℕ} {value : Datum} {members : List Member}
        → IsMember levels front name value next → IsNextMember levels next members rest
        → IsNextMember levels (44 ∷ front) ((name, value) ∷ members) rest

-- the whole text spells the value, with blanks around it
pub record IsText (levels : ℕ) (front : List ℕ) (value : Datum) : Type 0 where
  pub rest : List ℕ
  pub spells : IsValue levels front value rest
  pub blanks : list_all is_blank rest ≡ true
