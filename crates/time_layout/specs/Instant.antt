-- The instant that a text names: a day of the calendar, a time of day and a distance from UTC.
use Rattle.std.specs.Prelude.{◌≡◌, ℕ, ◌+◌, ◌*◌, ◌%◌, ℤ, pos, ◌+ℤ◌, ◌-ℤ◌, ◌*ℤ◌, Result, Ok, Err}
use Rattle.jiff_core.specs.Calendar.{IsBetween, IsCivilDate, days_from_civil}
use Rattle.time_layout.specs.declared.fault.TimeFault.{TimeFault}
use Rattle.time_layout.specs.declared.fault.TimeFault.TheVariants.{OutOfRange}
use Rattle.time_layout.specs.declared.parts.Clock.{Clock}
use Rattle.time_layout.specs.declared.parts.Clock.TheVariants.{Full, Am, Pm}
use Rattle.time_layout.specs.declared.parts.Said.{Said}
use Rattle.time_layout.specs.Atoms.{Reading}

-- the hour of the day: 12 is the first of its half
abbrev pub clock_hour : Clock → ℕ → ℕ
clock_hour Full hour = hour
clock_hour Am hour = hour % 12
clock_hour Pm hour = hour % 12 + 12

-- the second of the day, where it was said
abbrev pub second_of_day : Said → ℕ
second_of_day s = clock_hour s.clock s.hour * 3600 + s.minute * 60 + s.second

-- seconds since 1970-01-01T00:00:00Z, on that day
abbrev pub seconds_from : ℤ → Said → ℤ
seconds_from day s = day *ℤ pos 86_400 +ℤ (pos (second_of_day s) -ℤ s.offset)

abbrev pub seconds_of : Said → ℤ
seconds_of s = seconds_from (days_from_civil (pos s.year) s.month s.day) s

abbrev pub nanos_of : Said → ℤ
nanos_of s = seconds_of s *ℤ pos 1_000_000_000 +ℤ pos s.nanosecond

-- an instant has no more than 64 bits
abbrev pub IsInstant : ℤ → Type 0
IsInstant nanos = IsBetween (pos 0) (pos 18_446_744_073_709_551_615) nanos

-- so many nanoseconds since 1970, which may be none that an instant has
abbrev pub IsCounted : ℤ → Result ℕ TimeFault → Type 0
IsCounted nanos (Ok instant) = IsInstant nanos × (nanos ≡ pos instant)
IsCounted nanos (Err fault) = (fault ≡ OutOfRange) × (IsInstant nanos → ⊥)

-- the calendar has the day, and the instant can be told
abbrev pub HasInstant : Said → Type 0
HasInstant s = IsCivilDate (pos s.year) s.month s.day × IsInstant (nanos_of s)

abbrev pub IsInstantOf : Said → Result ℕ TimeFault → Type 0
IsInstantOf s (Ok instant) = HasInstant s × (nanos_of s ≡ pos instant)
IsInstantOf s (Err fault) = (fault ≡ OutOfRange) × (HasInstant s → ⊥)

-- the instant of what was read, or the fault of reading it
abbrev pub IsTimeOf : Reading Said → Result ℕ TimeFault → Type 0
IsTimeOf (Ok read) result = IsInstantOf read.0 result
IsTimeOf (Err fault) result = result ≡ Err fault
