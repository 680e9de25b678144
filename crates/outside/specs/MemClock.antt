-- The readings that a clock in memory still has to give.
use Rattle.std.specs.Prelude.{ℕ, List, drop, Some}
use Rattle.outside.specs.ClockMeaning.{ClockMeaning}
use Rattle.outside.specs.declared.clock.MemClock.{MemClock}

abbrev pub readings_of : MemClock → List ℕ
readings_of clock = drop clock.place clock.readings.items

abbrev pub clock_meaning : ClockMeaning MemClock
clock_meaning = record { readings = λ clock. Some (readings_of clock) }
