-- What a call that reads at a place answers of what reading gives there.
use Rattle.std.specs.Prelude.{◌≡◌, ℕ, ◌-◌, ◌≤◌, List, length, drop, Result, Ok, Err, ⊤}
use Rattle.state_codec.specs.declared.CodecFault.{CodecFault}
use Rattle.state_codec.specs.declared.CodecFault.TheVariants.{Malformed, Memory}
use Rattle.state_codec.specs.Reading.{Reading}

-- this is read at a place, up to the next one
pub record IsRead {Y : Type 0} (reading : List ℕ → Reading Y) (bytes : List ℕ) (at : ℕ) (value : Y) (next : ℕ) : Type 0 where
  pub given : reading (drop at bytes) ≡ Ok (value, drop next bytes)
  pub within : next ≤ length bytes

-- nothing is, from this byte on
pub record IsRefused {Y : Type 0} (reading : List ℕ → Reading Y) (bytes : List ℕ) (at fault : ℕ) : Type 0 where
  pub left : ℕ
  pub given : reading (drop at bytes) ≡ Err left
  pub place : fault ≡ length bytes - left

-- want of memory says nothing
abbrev pub Finds : {X Y : Type 0} → (X → Y) → (List ℕ → Reading Y) → List ℕ → ℕ → Result (X × ℕ) CodecFault → Type 0
Finds view reading bytes at (Ok x) = IsRead reading bytes at (view x.0) x.1
Finds view reading bytes at (Err (Malformed fault)) = IsRefused reading bytes at fault
Finds view reading bytes at (Err Memory) = ⊤
