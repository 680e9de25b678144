-- What a call that reads at a place answers: what is spelled there and the place behind it, or the exact place of a fault.
use Rattle.std.specs.Prelude.{◌≡◌, ℕ, ◌+◌, ◌-◌, ◌<◌, ◌≤◌, List, ◌++◌, length, drop, Result, Ok, Err}
use Rattle.state_codec.specs.declared.CodecFault.{CodecFault}
use Rattle.state_codec.specs.declared.CodecFault.TheVariants.{Malformed, Memory}
use Rattle.state_codec.specs.Reading.{Reading}
use Rattle.state_codec.specs.DeadEnds.{IsDeadEnd}

-- the value is spelled at this place, up to the next one
pub record StandsAt {Y : Type 0} (spelling : Y → List ℕ) (Keeps : Y → Type 0) (bytes : List ℕ) (at : ℕ) (value : Y) (next : ℕ) : Type 0 where
  pub lawful : Keeps value
  pub spelled : drop at bytes ≡ spelling value ++ drop next bytes
  pub next_is : next ≡ at + length (spelling value)
  pub within : next ≤ length bytes

-- nothing is spelled at this place, and reading tells how many bytes are left where it can't go on: in front of the end it
-- is told at the first byte or key with which nothing goes on
pub record FailsAt {Y : Type 0} (spelling : Y → List ℕ) (Keeps : Y → Type 0) (reading : List ℕ → Reading Y) (bytes : List ℕ) (at fault : ℕ) : Type 0 where
  pub none : (value : Y) (rest : List ℕ) → Keeps value → drop at bytes ≡ spelling value ++ rest → ⊥
  pub place : (left : ℕ) × (reading (drop at bytes) ≡ Err left) × (fault ≡ length bytes - left)
  pub stops : fault < length bytes → IsDeadEnd spelling Keeps bytes at fault

-- what a call answers, seen by `view`; want of memory says nothing
abbrev pub Reads : {X Y : Type 0} → (X → Y) → (Y → List ℕ) → (Y → Type 0) → (List ℕ → Reading Y) → List ℕ → ℕ → Result (X × ℕ) CodecFault → Type 0
Reads view spelling Keeps reading bytes at (Ok x) = StandsAt spelling Keeps bytes at (view x.0) x.1
Reads view spelling Keeps reading bytes at (Err (Malformed fault)) = FailsAt spelling Keeps reading bytes at fault
Reads view spelling Keeps reading bytes at (Err Memory) = Unit {0}
