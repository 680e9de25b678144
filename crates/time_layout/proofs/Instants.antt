-- From a day and a count of nanoseconds to the instant of what was said.
use Rattle.std.proofs.Common.{◌≡◌, ◌∙◌, sym, ap, ℕ, ℤ, pos, ◌+ℤ◌, ◌*ℤ◌, Result, Ok, Err, subst, arith}
use Rattle.jiff.proofs.SpanFacts.{signed_arith}
use Rattle.jiff_core.specs.Calendar.{IsCivilDate, days_from_civil}
use Rattle.time_layout.specs.declared.fault.TimeFault.{TimeFault}
use Rattle.time_layout.specs.declared.parts.Said.{Said}
use Rattle.time_layout.specs.Instant.{IsInstant, IsCounted, IsInstantOf, IsTimeOf, nanos_of, seconds_from}
use Rattle.time_layout.specs.Atoms.{Reading}

counted_is : (s : Said) (nanos : ℤ) (result : Result ℕ TimeFault) → IsCivilDate (pos s.year) s.month s.day → nanos ≡ nanos_of s
    → IsCounted nanos result → IsInstantOf s result
counted_is s nanos (Ok instant) day is counted = ((day, subst IsInstant is counted.0), sym is ∙ counted.1)
counted_is s nanos (Err fault) day is counted = (counted.0, λ has. counted.1 (subst IsInstant (sym is) has.1))

pub instant_is : (s : Said) (day nanos : ℤ) (result : Result ℕ TimeFault) → IsCivilDate (pos s.year) s.month s.day
    → day ≡ days_from_civil (pos s.year) s.month s.day → nanos ≡ seconds_from day s *ℤ pos 1_000_000_000 +ℤ pos s.nanosecond
    → IsCounted nanos result → IsInstantOf s result
instant_is s day nanos result civil day_is nanos_is counted =
    counted_is s nanos result civil (nanos_is ∙ ap (λ d. seconds_from d s *ℤ pos 1_000_000_000 +ℤ pos s.nanosecond) day_is) counted

-- an instant is one number
same_instant : (z : ℤ) (m n : ℕ) → z ≡ pos m → z ≡ pos n → m ≡ n
same_instant z m n one other = omega (arith, signed_arith, sym one ∙ other)

one_answer : (s : Said) (answer other : Result ℕ TimeFault) → IsInstantOf s answer → IsInstantOf s other → answer ≡ other
one_answer s (Ok m) (Ok n) one two = ap Ok (same_instant (nanos_of s) m n one.1 two.1)
one_answer s (Ok m) (Err fault) one two = absurd (two.1 one.0)
one_answer s (Err fault) (Ok n) one two = absurd (one.1 two.0)
one_answer s (Err fault) (Err other) one two = ap Err (one.0 ∙ sym two.0)

pub one_time : (reading : Reading Said) (answer other : Result ℕ TimeFault) → IsTimeOf reading answer → IsTimeOf reading other → answer ≡ other
one_time (Ok read) answer other one two = one_answer read.0 answer other one two
one_time (Err fault) answer other one two = one ∙ sym two
