-- The grammar of RFC 3164, section 4, of a year and a distance from UTC that the text doesn't tell.
use Rattle.std.specs.Prelude.{◌≡◌, ℕ, ◌==◌, if◌then◌else◌, List, [], ◌∷◌, ◌++◌, ℤ, Option, Some, None}
use Rattle.syslog_parser.specs.Bytes.{is_not_space, is_tag_byte, is_bracketed}
use Rattle.syslog_parser.specs.Priorities.{IsPriority}
use Rattle.syslog_parser.specs.Stamps.{IsDate}
use Rattle.syslog_parser.specs.Words.{IsWord}

-- the text without a space at its front
abbrev pub without_space : List ℕ → List ℕ
without_space [] = []
without_space (byte ∷ rest) = (if byte == 32 then rest else byte ∷ rest)

-- behind a tag: a process between brackets, where there is one, and a colon
pub data IsProcess : List ℕ → Option (List ℕ) → List ℕ → Type 0 where
  no_process : {rest : List ℕ} → IsProcess (58 ∷ rest) None rest
  a_process : {own rest : List ℕ} → IsWord is_bracketed own → IsProcess (91 ∷ (own ++ 93 ∷ 58 ∷ rest)) (Some own) rest

-- what stands behind the time
pub record Tail : Type 0 where
  pub host : List ℕ
  pub tag : List ℕ
  pub process : Option (List ℕ)
  pub message : List ℕ

pub record IsTail (text : List ℕ) (tail : Tail) : Type 0 where
  pub behind_tag : List ℕ
  pub behind_colon : List ℕ
  pub is : text ≡ tail.host ++ 32 ∷ (tail.tag ++ behind_tag)
  pub host : IsWord is_not_space tail.host
  pub tag : IsWord is_tag_byte tail.tag
  pub process : IsProcess behind_tag tail.process behind_colon
  pub message : tail.message ≡ without_space behind_colon

pub record Message : Type 0 where
  pub priority : ℕ
  -- in nanoseconds since 1970-01-01T00:00:00Z
  pub time : ℕ
  pub tail : Tail

-- the priority and the time
pub record IsHead (year : ℕ) (location : ℤ) (text : List ℕ) (priority time : ℕ) (rest : List ℕ) : Type 0 where
  pub behind_priority : List ℕ
  pub priority_is : IsPriority text priority behind_priority
  pub date_is : IsDate year location behind_priority time rest

pub record IsMessage (year : ℕ) (location : ℤ) (text : List ℕ) (message : Message) : Type 0 where
  pub rest : List ℕ
  pub head : IsHead year location text message.priority message.time rest
  pub tail : IsTail rest message.tail
