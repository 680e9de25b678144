-- Inputs that are taken from the front, and outputs that grow.
use Rattle.std.specs.Prelude.{◌≡◌, ℕ, ◌<◌, List, [], ◌++◌, length, take, Result, Ok, Err}
use Rattle.outside.specs.declared.fault.CallFault.{CallFault}
use Rattle.outside.specs.declared.fault.Failed.{Failed}

-- The first bytes of the buffer were taken from the front of the input, none only at its end.
pub record Takes (buffer : List ℕ) (count : ℕ) (old new : List ℕ) : Type 0 where
  pub taken : old ≡ take count buffer ++ new
  pub ends : count ≡ 0 → 0 < length buffer → old ≡ []

abbrev pub TakesFront : List ℕ → Result ℕ Failed → List ℕ → List ℕ → Type 0
TakesFront buffer (Ok count) old new = Takes buffer count old new
TakesFront buffer (Err _) old new = new ≡ old

-- the output grew by the bytes, or, on a fault, by a part from their front
abbrev pub Grows : List ℕ → Result Unit CallFault → List ℕ → List ℕ → Type 0
Grows bytes (Ok _) old new = new ≡ old ++ bytes
Grows bytes (Err _) old new = (part : ℕ) × (new ≡ old ++ take part bytes)
