-- Why a text is no message: the first part from the left that can't be read.
use Rattle.std.specs.Prelude.{◌≡◌, ◌≢◌, ℕ, List, ◌∷◌, ⊤, ℤ, Option}
use Rattle.syslog_parser.specs.declared.fault.SyslogFault.{SyslogFault}
use Rattle.syslog_parser.specs.declared.fault.SyslogFault.TheVariants.{Pri, Version, Time, Header, Structured, Memory}
use Rattle.syslog_parser.specs.Leftmost.{IsLeftmostFault}
use Rattle.syslog_parser.specs.Priorities.{IsPriority}
use Rattle.syslog_parser.specs.Rfc3164 as rfc3164
use Rattle.syslog_parser.specs.Rfc5424 as rfc5424
use Rattle.syslog_parser.specs.Stamps.{IsTime, IsDate}
use Rattle.syslog_parser.specs.Told.{Meaning, meaning_3164, meaning_5424}

-- what is told by the text's message
pub record Tells5424 (text : List ℕ) (meaning : Meaning) : Type 0 where
  pub message : rfc5424.Message
  pub spelled : rfc5424.IsMessage text message
  pub told : meaning ≡ meaning_5424 message

pub record Tells3164 (year : ℕ) (location : ℤ) (text : List ℕ) (meaning : Meaning) : Type 0 where
  pub message : rfc3164.Message
  pub spelled : rfc3164.IsMessage year location text message
  pub told : meaning ≡ meaning_3164 message

-- no priority stands at the front
abbrev pub HasNoPriority : List ℕ → Type 0
HasNoPriority text = (priority : ℕ) (rest : List ℕ) → IsPriority text priority rest → ⊥

-- behind the priority stands no version 1 with a space
pub record HasNoVersion (text : List ℕ) : Type 0 where
  pub priority : ℕ
  pub rest : List ℕ
  pub priority_is : IsPriority text priority rest
  pub none : (more : List ℕ) → rest ≢ 49 ∷ 32 ∷ more

-- behind the version stands no time
pub record HasNoTime (text : List ℕ) : Type 0 where
  pub priority : ℕ
  pub rest : List ℕ
  pub priority_is : IsPriority text priority (49 ∷ 32 ∷ rest)
  pub none : (time : Option ℕ) (more : List ℕ) → IsTime rest time more → ⊥

-- behind the time no header stands, and the text can't go on from this place to be a message
pub record HasNoHeader (text : List ℕ) (at : ℕ) : Type 0 where
  pub priority : ℕ
  pub time : Option ℕ
  pub rest : List ℕ
  pub head : rfc5424.IsHead text priority time rest
  pub none : (values : List rfc5424.Valued) (more : List ℕ) → rfc5424.AreFields rfc5424.header_fields rest values more → ⊥
  pub leftmost : IsLeftmostFault rfc5424.IsMessage text at

-- a header stands behind the time, and the text can't go on from this place to be a message
pub record HasNoData (text : List ℕ) (at : ℕ) : Type 0 where
  pub priority : ℕ
  pub time : Option ℕ
  pub rest : List ℕ
  pub values : List rfc5424.Valued
  pub behind : List ℕ
  pub head : rfc5424.IsHead text priority time rest
  pub header : rfc5424.AreFields rfc5424.header_fields rest values behind
  pub leftmost : IsLeftmostFault rfc5424.IsMessage text at

abbrev pub IsFault5424 : List ℕ → SyslogFault → Type 0
IsFault5424 text Pri = HasNoPriority text
IsFault5424 text Version = HasNoVersion text
IsFault5424 text Time = HasNoTime text
IsFault5424 text (Header at) = HasNoHeader text at
IsFault5424 text (Structured at) = HasNoData text at
IsFault5424 text Memory = ⊤

-- behind the priority stands no time
pub record HasNoDate (year : ℕ) (location : ℤ) (text : List ℕ) : Type 0 where
  pub priority : ℕ
  pub rest : List ℕ
  pub priority_is : IsPriority text priority rest
  pub none : (time : ℕ) (more : List ℕ) → IsDate year location rest time more → ⊥

-- a time stands behind the priority, and the text can't go on from this place to be a message
pub record HasNoTag (year : ℕ) (location : ℤ) (text : List ℕ) (at : ℕ) : Type 0 where
  pub priority : ℕ
  pub time : ℕ
  pub rest : List ℕ
  pub head : rfc3164.IsHead year location text priority time rest
  pub leftmost : IsLeftmostFault (rfc3164.IsMessage year location) text at

abbrev pub IsFault3164 : ℕ → ℤ → List ℕ → SyslogFault → Type 0
IsFault3164 year location text Pri = HasNoPriority text
IsFault3164 year location text Version = ⊥
IsFault3164 year location text Time = HasNoDate year location text
IsFault3164 year location text (Header at) = HasNoTag year location text at
IsFault3164 year location text (Structured at) = ⊥
IsFault3164 year location text Memory = ⊤
