-- The grammar of structured data (RFC 5424, section 6.3). In each relation the text spells the value, with the rest behind it.
use Rattle.std.specs.Prelude.{◌≡◌, ℕ, true, List, [], ◌∷◌, ◌++◌}
use Rattle.syslog_parser.specs.Bytes.{is_special, is_plain, is_name_byte}
use Rattle.syslog_parser.specs.Words.{IsShortWord}

-- an id of an element, or a name of a parameter
abbrev pub IsName : List ℕ → Type 0
IsName own = IsShortWord is_name_byte 32 own

-- what stands behind the first quote of a value, with the second: a backslash in front of `"`, `\` or `]` escapes it, and
-- any other is itself
pub data IsContent : List ℕ → List ℕ → List ℕ → Type 0 where
  a_quote : {rest : List ℕ} → IsContent (34 ∷ rest) [] rest
  a_plain : {byte : ℕ} {front value rest : List ℕ} → is_plain byte ≡ true → IsContent front value rest
      → IsContent (byte ∷ front) (byte ∷ value) rest
  an_escape : {byte : ℕ} {front value rest : List ℕ} → is_special byte ≡ true → IsContent front value rest
      → IsContent (92 ∷ byte ∷ front) (byte ∷ value) rest
  a_backslash : {byte : ℕ} {front value rest : List ℕ} → is_plain byte ≡ true → IsContent (byte ∷ front) value rest
      → IsContent (92 ∷ byte ∷ front) (92 ∷ value) rest

-- a name and a value
abbrev pub Param : Type 0
Param = List ℕ × List ℕ

-- name="value"
pub data IsParam : List ℕ → Param → List ℕ → Type 0 where
  a_param : {name front value rest : List ℕ} → IsName name → IsContent front value rest
      → IsParam (name ++ 61 ∷ 34 ∷ front) (name, value) rest

-- what stands behind an id: parameters, each behind a space, and the bracket
pub data AreParams : List ℕ → List Param → List ℕ → Type 0 where
  no_param : {rest : List ℕ} → AreParams (93 ∷ rest) [] rest
  next_param : {front next rest : List ℕ} {param : Param} {params : List Param} → IsParam front param next → AreParams next params rest
      → AreParams (32 ∷ front) (param ∷ params) rest

-- an id and parameters
abbrev pub Element : Type 0
Element = List ℕ × List Param

pub data IsElement : List ℕ → Element → List ℕ → Type 0 where
  an_element : {id behind rest : List ℕ} {params : List Param} → IsName id → AreParams behind params rest
      → IsElement (91 ∷ (id ++ behind)) (id, params) rest

-- one or more elements
pub data AreElements : List ℕ → List Element → List ℕ → Type 0 where
  last_element : {front rest : List ℕ} {element : Element} → IsElement front element rest → AreElements front (element ∷ []) rest
  next_element : {front next rest : List ℕ} {element : Element} {elements : List Element} → IsElement front element next
      → AreElements next elements rest → AreElements front (element ∷ elements) rest

-- `-` or elements
pub data IsData : List ℕ → List Element → List ℕ → Type 0 where
  no_data : {rest : List ℕ} → IsData (45 ∷ rest) [] rest
  some_data : {front rest : List ℕ} {elements : List Element} → AreElements front elements rest → IsData front elements rest
