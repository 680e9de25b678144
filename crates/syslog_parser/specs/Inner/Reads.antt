-- What the parts of the reader do: what they find at the front of a text and leave behind it, and where they stop.
use Rattle.std.specs.Prelude.{◌≡◌, ℕ, ◌-◌, ◌<◌, ◌≤◌, ◌⊎◌, min, ◌==◌, ◌||◌, Bool, true, false, List, [], ◌∷◌, ◌++◌, length, map, slice_index, Err, ⊤}
use Rattle.std.specs.List.{prefix_len}
use Rattle.syslog_parser.specs.declared.fault.SyslogFault.{SyslogFault}
use Rattle.syslog_parser.specs.declared.fault.SyslogFault.TheVariants as fault
use Rattle.syslog_parser.specs.declared.fault.Stop.{Stop}
use Rattle.syslog_parser.specs.declared.fault.Stop.TheVariants.{At, Memory}
use Rattle.syslog_parser.specs.Bytes.{is_printable, is_special, is_plain, is_not_space, is_tag_byte}
use Rattle.syslog_parser.specs.Rfc5424.{Limited, Valued, header_fields, AreFields, IsEnd}
use Rattle.syslog_parser.specs.States3164 as rfc3164
use Rattle.syslog_parser.specs.States5424.{Before, Within, in_name, in_value, behind_value, wants_element, wants_data, outcome}
use Rattle.syslog_parser.specs.Structured.{IsName, Param, IsParam, AreParams, Element, IsElement, AreElements, IsData}
use Rattle.syslog_parser.specs.Told.{Member, put, put_all, told_field, told_fields, told_param, told_element, told_data, told_message}
use Rattle.syslog_parser.specs.Words.{IsWord, IsShortWord}

-- unless memory was short, so many bytes were left
abbrev pub StopsWith : (ℕ → Type 0) → Stop → Type 0
StopsWith P (At left) = P left
StopsWith P Memory = ⊤

-- the text has a next byte, which passes
pub record BeginsWith (test : ℕ → Bool) (text : List ℕ) : Type 0 where
  pub next : ℕ
  pub more : List ℕ
  pub begins : text ≡ next ∷ more
  pub passes : test next ≡ true

-- no word of this kind and length, with a byte behind it that ends it, stands at the front: where it goes wrong
pub record HasNoWord (kind : ℕ → Bool) (most : ℕ) (ends : ℕ → Bool) (text : List ℕ) (left : ℕ) : Type 0 where
  pub at : ℕ
  pub at_is : at ≡ min (prefix_len kind text) most
  pub left_is : left ≡ length text - at
  pub unended : (at ≡ 0) ⊎ (at < length text → ends (slice_index text at) ≡ false)

abbrev pub is_space : ℕ → Bool
is_space byte = byte == 32

-- a field and the space behind it
pub record IsFieldText (most : ℕ) (text own rest : List ℕ) : Type 0 where
  pub is : text ≡ own ++ 32 ∷ rest
  pub short : IsShortWord is_printable most own

-- the fields up to one that can't be read
pub data StopsInFields : List Limited → List ℕ → ℕ → Type 0 where
  here : {name text : List ℕ} {most left : ℕ} {fields : List Limited} → 1 ≤ most → HasNoWord is_printable most is_space text left
      → StopsInFields ((name, most) ∷ fields) text left
  later : {name text own rest : List ℕ} {most left : ℕ} {fields : List Limited} → IsFieldText most text own rest
      → StopsInFields fields rest left → StopsInFields ((name, most) ∷ fields) text left

-- what a field puts into the members
pub record PutsField (name : List ℕ) (most : ℕ) (text : List ℕ) (old new : List Member) (rest : List ℕ) : Type 0 where
  pub own : List ℕ
  pub spelled : IsFieldText most text own rest
  pub told : new ≡ put_all old (told_field (name, own))

pub record PutsHeader (text : List ℕ) (old new : List Member) (rest : List ℕ) : Type 0 where
  pub values : List Valued
  pub fields : AreFields header_fields text values rest
  pub told : new ≡ put_all old (told_fields values)

-- a name and the `=` behind it
pub record IsNameText (text own rest : List ℕ) : Type 0 where
  pub is : text ≡ own ++ 61 ∷ rest
  pub name : IsName own

abbrev pub is_equals_sign : ℕ → Bool
is_equals_sign byte = byte == 61

-- what stands behind an id
abbrev pub ends_id : ℕ → Bool
ends_id byte = (byte == 32) || (byte == 93)

-- an id, and what ends it
pub record IsIdText (text own rest : List ℕ) : Type 0 where
  pub is : text ≡ own ++ rest
  pub name : IsName own
  pub ends : BeginsWith ends_id rest

-- what is added to a value for what stands behind a backslash
pub data Escapes : List ℕ → List ℕ → List ℕ → List ℕ → Type 0 where
  meant : {byte : ℕ} {rest old : List ℕ} → is_special byte ≡ true → Escapes (byte ∷ rest) old (old ++ byte ∷ []) rest
  itself : {byte : ℕ} {rest old : List ℕ} → is_plain byte ≡ true → Escapes (byte ∷ rest) old (old ++ 92 ∷ []) (byte ∷ rest)

pub record IsAtEnd (text : List ℕ) (left : ℕ) : Type 0 where
  pub empty : text ≡ []
  pub left_is : left ≡ 0

abbrev pub StopsInValue : List ℕ → ℕ → Type 0
StopsInValue text left = (within : Within) (name : List ℕ) → outcome (in_value within name []) text ≡ Err left

pub record PutsParam (text : List ℕ) (old new : List Member) (rest : List ℕ) : Type 0 where
  pub param : Param
  pub spelled : IsParam text param rest
  pub told : new ≡ put old (told_param param)

abbrev pub StopsInParam : List ℕ → ℕ → Type 0
StopsInParam text left = (within : Within) → outcome (in_name within []) text ≡ Err left

pub record PutsParams (text : List ℕ) (old new : List Member) (rest : List ℕ) : Type 0 where
  pub params : List Param
  pub spelled : AreParams text params rest
  pub told : new ≡ put_all old (map told_param params)

abbrev pub StopsInParams : List ℕ → ℕ → Type 0
StopsInParams text left = (within : Within) → outcome (behind_value within) text ≡ Err left

pub record PutsElement (text : List ℕ) (old new : List Member) (rest : List ℕ) : Type 0 where
  pub element : Element
  pub spelled : IsElement text element rest
  pub told : new ≡ put old (told_element element)

abbrev pub StopsInElement : List ℕ → ℕ → Type 0
StopsInElement text left = (before : Before) → outcome (wants_element before) text ≡ Err left

-- all the elements that stand there; only an end or a space can follow
pub record PutsElements (text : List ℕ) (old new : List Member) (rest : List ℕ) : Type 0 where
  pub elements : List Element
  pub spelled : AreElements text elements rest
  pub told : new ≡ put_all old (map told_element elements)
  pub closed : BeginsWith is_not_space rest → StopsInElement text (length rest)

abbrev pub StopsInData : List ℕ → ℕ → Type 0
StopsInData text left = (values : List Valued) → outcome (wants_data values) text ≡ Err left

pub record PutsData (text : List ℕ) (old new : List Member) (rest : List ℕ) : Type 0 where
  pub elements : List Element
  pub spelled : IsData text elements rest
  pub told : new ≡ put_all old (told_data elements)
  pub closed : BeginsWith is_not_space rest → StopsInData text (length rest)

pub record PutsMessage (text : List ℕ) (old new : List Member) : Type 0 where
  pub message : List ℕ
  pub spelled : IsEnd text message
  pub told : new ≡ put_all old (told_message message)

-- neither the end nor a space stands there
pub record HasNoEnd (text : List ℕ) (left : ℕ) : Type 0 where
  pub otherwise : BeginsWith is_not_space text
  pub left_is : left ≡ length text

-- what stands behind the header
pub record PutsTail (text : List ℕ) (old new : List Member) : Type 0 where
  pub elements : List Element
  pub behind : List ℕ
  pub message : List ℕ
  pub data_is : IsData text elements behind
  pub end_is : IsEnd behind message
  pub told : new ≡ put_all (put_all old (told_data elements)) (told_message message)

-- the fault of a text of this length
abbrev pub header_fault : ℕ → Stop → SyslogFault
header_fault len (At left) = fault.Header (len - left)
header_fault len Memory = fault.Memory

abbrev pub structured_fault : ℕ → Stop → SyslogFault
structured_fault len (At left) = fault.Structured (len - left)
structured_fault len Memory = fault.Memory

-- a host and the space behind it
pub record IsHostText (text own rest : List ℕ) : Type 0 where
  pub is : text ≡ own ++ 32 ∷ rest
  pub word : IsWord is_not_space own

abbrev pub StopsInHost : List ℕ → ℕ → Type 0
StopsInHost text left = rfc3164.outcome (rfc3164.in_host []) text ≡ Err left

-- what stands behind a tag
abbrev pub ends_tag : ℕ → Bool
ends_tag byte = (byte == 58) || (byte == 91)

-- a tag, and what ends it
pub record IsTagText (text own rest : List ℕ) : Type 0 where
  pub is : text ≡ own ++ rest
  pub word : IsWord is_tag_byte own
  pub ends : BeginsWith ends_tag rest

abbrev pub StopsInTag : List ℕ → ℕ → Type 0
StopsInTag text left = (host : List ℕ) → rfc3164.outcome (rfc3164.in_tag host []) text ≡ Err left

-- behind a tag
abbrev pub StopsInProcess : List ℕ → ℕ → Type 0
StopsInProcess text left =
    (host tag : List ℕ) → rfc3164.is_begun tag ≡ true → rfc3164.outcome (rfc3164.in_tag host tag) text ≡ Err left
