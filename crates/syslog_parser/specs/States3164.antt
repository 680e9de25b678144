-- The states in which the reader goes over what stands behind the time of a message of RFC 3164.
use Rattle.std.specs.Prelude.{ℕ, ◌==◌, Bool, true, false, if◌then◌else◌, List, [], ◌∷◌, ◌++◌, Option, None, Some, Result}
use Rattle.syslog_parser.specs.Bytes.{is_tag_byte}
use Rattle.syslog_parser.specs.Machines as machines
use Rattle.syslog_parser.specs.Rfc3164.{Tail}

-- a host, a tag, and a process where there is one
pub record Named : Type 0 where
  pub host : List ℕ
  pub tag : List ℕ
  pub process : Option (List ℕ)

pub data State : Type 0 where
  in_host : List ℕ → State
  -- behind this host
  in_tag : List ℕ → List ℕ → State
  -- behind this host and tag
  in_process : List ℕ → List ℕ → List ℕ → State
  wants_colon : Named → State
  behind_colon : Named → State
  in_message : Named → List ℕ → State

abbrev pub is_begun : List ℕ → Bool
is_begun [] = false
is_begun (byte ∷ own) = true

abbrev pub host_step : List ℕ → ℕ → Option State
host_step own byte =
    (if byte == 32 then (if is_begun own then Some (in_tag own []) else None) else Some (in_host (own ++ byte ∷ [])))

abbrev pub tag_end : List ℕ → List ℕ → ℕ → Option State
tag_end host own byte =
    (if byte == 58 then Some (behind_colon (record { host = host; tag = own; process = None }))
    else (if byte == 91 then Some (in_process host own []) else None))

abbrev pub tag_step : List ℕ → List ℕ → ℕ → Option State
tag_step host own byte =
    (if is_tag_byte byte then Some (in_tag host (own ++ byte ∷ []))
    else (if is_begun own then tag_end host own byte else None))

abbrev pub process_step : List ℕ → List ℕ → List ℕ → ℕ → Option State
process_step host tag own byte =
    (if byte == 93 then (if is_begun own then Some (wants_colon (record { host = host; tag = tag; process = Some own })) else None)
    else Some (in_process host tag (own ++ byte ∷ [])))

abbrev pub step : State → ℕ → Option State
step (in_host own) byte = host_step own byte
step (in_tag host own) byte = tag_step host own byte
step (in_process host tag own) byte = process_step host tag own byte
step (wants_colon named) byte = (if byte == 58 then Some (behind_colon named) else None)
step (behind_colon named) byte = (if byte == 32 then Some (in_message named []) else Some (in_message named (byte ∷ [])))
step (in_message named own) byte = Some (in_message named (own ++ byte ∷ []))

abbrev pub tail_of : Named → List ℕ → Tail
tail_of named message = record { host = named.host; tag = named.tag; process = named.process; message = message }

-- what was read, where the text may end here
abbrev pub value_at : State → Option Tail
value_at (in_host own) = None
value_at (in_tag host own) = None
value_at (in_process host tag own) = None
value_at (wants_colon named) = None
value_at (behind_colon named) = Some (tail_of named [])
value_at (in_message named own) = Some (tail_of named own)

abbrev pub outcome : State → List ℕ → Result Tail ℕ
outcome s text = machines.outcome step value_at s text
