-- A frame in a file: a gate byte, a sequence number and a length of 8 bytes each, the more significant byte first, and
-- a payload of that length. It counts once its gate is open.
use Rattle.std.specs.Prelude.{◌≡◌, ◌⊎◌, ℕ, ◌+◌, ◌≤◌, ◌==◌, ◌&&◌, nat_le, min, Bool, false, List, ◌∷◌, ◌++◌, length, take, drop, slice_index}
use Rattle.std.specs.Int.{w64, to_be_bytes, from_be_bytes}

abbrev pub open_gate : ℕ
open_gate = 165

-- the last number of 64 bits
abbrev pub last_number : ℕ
last_number = 18446744073709551615

unfoldable pub number_at : ℕ → List ℕ → ℕ
number_at place content = from_be_bytes w64 (take 8 (drop place content))

abbrev pub sequence_at : ℕ → List ℕ → ℕ
sequence_at place content = number_at (place + 1) content

abbrev pub length_at : ℕ → List ℕ → ℕ
length_at place content = number_at (place + 9) content

-- The gate is open and the file has the frame whole. No file goes past 2^64 - 1.
unfoldable pub is_open_at : ℕ → List ℕ → Bool
is_open_at place content = (slice_index content place == open_gate) && nat_le (place + 17 + length_at place content) (min (length content) last_number)

unfoldable pub payload_at : ℕ → List ℕ → List ℕ
payload_at place content = take (length_at place content) (drop (place + 17) content)

-- what stands behind the gate
unfoldable pub frame_body : ℕ → List ℕ → List ℕ
frame_body sequence payload = to_be_bytes w64 sequence ++ to_be_bytes w64 (length payload) ++ payload

-- an open frame
abbrev pub frame : ℕ → List ℕ → List ℕ
frame sequence payload = open_gate ∷ frame_body sequence payload

-- The file ends behind a closed gate at this place.
pub record IsClosedAt (place : ℕ) (content : List ℕ) : Type 0 where
  pub gate : slice_index content place ≡ 0
  pub ends : length content ≡ place + 1

-- From this place on the file has what was there, or no open frame, or an open gate and this body. What stands before
-- the place stays.
pub record Opens (place : ℕ) (body old new : List ℕ) : Type 0 where
  pub front : take place new ≡ take place old
  pub rest : (is_open_at place new ≡ false) ⊎ (new ≡ take place old ++ open_gate ∷ body)

-- No frame is open at this place, and what stands before it stays.
pub record StaysClosed (place : ℕ) (old new : List ℕ) : Type 0 where
  pub front : take place new ≡ take place old
  pub closed : is_open_at place new ≡ false

-- From its front the file has what was there, or no open frame.
abbrev pub Clears : List ℕ → List ℕ → Type 0
Clears old new = (new ≡ old) ⊎ (is_open_at 0 new ≡ false)

-- These bytes begin with this gate, sequence number and length.
pub record HasParts (front : List ℕ) (gate sequence size : ℕ) : Type 0 where
  pub whole : 17 ≤ length front
  pub gate_is : slice_index front 0 ≡ gate
  pub sequence_is : number_at 1 front ≡ sequence
  pub size_is : number_at 9 front ≡ size
