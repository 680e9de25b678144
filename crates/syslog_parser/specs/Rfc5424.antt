-- The grammar of RFC 5424, section 6.
use Prim.Native.String.{String}
use Rattle.std.specs.Prelude.{◌≡◌, ℕ, List, [], ◌∷◌, ◌++◌, take, drop, codes, bytes_eq, if◌then◌else◌, Option}
use Rattle.syslog_parser.specs.Bytes.{is_printable}
use Rattle.syslog_parser.specs.Priorities.{IsPriority}
use Rattle.syslog_parser.specs.Stamps.{IsTime}
use Rattle.syslog_parser.specs.Structured.{Element, IsData}
use Rattle.syslog_parser.specs.Words.{IsShortWord}

-- a name and the greatest number of bytes of what it names
abbrev pub Limited : Type 0
Limited = List ℕ × ℕ

abbrev limited : String → ℕ → Limited
limited name most = (codes name, most)

-- HOSTNAME, APP-NAME, PROCID and MSGID
abbrev pub header_fields : List Limited
header_fields = limited "hostname" 255 ∷ limited "appname" 48 ∷ limited "proc_id" 128 ∷ limited "msg_id" 32 ∷ []

-- a name and what the text has of it
abbrev pub Valued : Type 0
Valued = List ℕ × List ℕ

-- the fields one after another, each with a space behind it
pub data AreFields : List Limited → List ℕ → List Valued → List ℕ → Type 0 where
  no_field : {rest : List ℕ} → AreFields [] rest [] rest
  a_field : {name own front rest : List ℕ} {most : ℕ} {fields : List Limited} {values : List Valued}
      → IsShortWord is_printable most own → AreFields fields front values rest
      → AreFields ((name, most) ∷ fields) (own ++ 32 ∷ front) ((name, own) ∷ values) rest

-- the text without the mark U+FEFF at its front
unfoldable pub without_mark : List ℕ → List ℕ
without_mark raw = (if bytes_eq (take 3 raw) (239 ∷ 187 ∷ 191 ∷ []) then drop 3 raw else raw)

-- nothing, or a space and the message
pub data IsEnd : List ℕ → List ℕ → Type 0 where
  no_message : IsEnd [] []
  a_message : {raw : List ℕ} → IsEnd (32 ∷ raw) (without_mark raw)

-- what stands behind the time
pub record Tail : Type 0 where
  pub values : List Valued
  pub elements : List Element
  pub message : List ℕ

pub record IsTail (text : List ℕ) (tail : Tail) : Type 0 where
  pub behind_fields : List ℕ
  pub behind_data : List ℕ
  pub fields : AreFields header_fields text tail.values behind_fields
  pub elements : IsData behind_fields tail.elements behind_data
  pub end : IsEnd behind_data tail.message

pub record Message : Type 0 where
  pub priority : ℕ
  -- in nanoseconds since 1970-01-01T00:00:00Z
  pub time : Option ℕ
  pub tail : Tail

-- the priority, version 1, and the time
pub record IsHead (text : List ℕ) (priority : ℕ) (time : Option ℕ) (rest : List ℕ) : Type 0 where
  pub behind_priority : List ℕ
  pub behind_version : List ℕ
  pub priority_is : IsPriority text priority behind_priority
  pub version_is : behind_priority ≡ 49 ∷ 32 ∷ behind_version
  pub time_is : IsTime behind_version time rest

pub record IsMessage (text : List ℕ) (message : Message) : Type 0 where
  pub rest : List ℕ
  pub head : IsHead text message.priority message.time rest
  pub tail : IsTail rest message.tail
