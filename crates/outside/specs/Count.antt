-- Counts, and the cause of a fault: the count of the object that failed.
use Rattle.std.specs.Prelude.{◌≡◌, ℕ, ◌+◌, ◌≤◌, min, Result, Ok, Err}
use Rattle.outside.specs.declared.fault.CallFault.{CallFault}
use Rattle.outside.specs.declared.fault.CallFault.TheVariants.{Failed, Memory}
use Rattle.outside.specs.declared.fault.Failed as one

-- the value at which a count stands still
abbrev pub last_count : ℕ
last_count = 18446744073709551615

abbrev pub raised : ℕ → ℕ → ℕ
raised count by = min (count + by) last_count

-- it rose, or stands at its last value
abbrev pub Rose : ℕ → ℕ → Type 0
Rose before after = (before ≤ after) × (raised before 1 ≤ after) × (after ≤ last_count)

-- over any number of calls
pub record NeverFalls (before after : ℕ) : Type 0 where
  pub later : before ≤ after
  pub in_range : before ≤ last_count → after ≤ last_count

-- The call failed only where the count rose. Any other answer leaves the count as it was.
abbrev pub HasCause : {T : Type 0} → Result T CallFault → ℕ → ℕ → Type 0
HasCause (Ok _) before after = after ≡ before
HasCause (Err Failed) before after = Rose before after
HasCause (Err Memory) before after = after ≡ before

-- the same of a call that takes no memory
abbrev pub HasOneCause : {T : Type 0} → Result T one.Failed → ℕ → ℕ → Type 0
HasOneCause (Ok _) before after = after ≡ before
HasOneCause (Err _) before after = Rose before after
