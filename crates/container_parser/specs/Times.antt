-- The time of a container's line: that of RFC 3339 with at most nine digits of a second's fraction.
use Rattle.std.specs.Prelude.{ℕ, pos, List, Ok, Err}
use Rattle.time_layout.specs.Instant.{IsTimeOf}
use Rattle.time_layout.specs.Iso.{rfc3339_parts}
use Rattle.time_layout.specs.Parts.{layout_read}
use Rattle.time_layout.specs.declared.fault.TimeFault.{TimeFault}
use Rattle.time_layout.specs.declared.fault.TimeFault.TheVariants.{Mismatch, OutOfRange}

-- the text names this instant, in nanoseconds since 1970-01-01T00:00:00Z
abbrev pub IsTime : List ℕ → ℕ → Type 0
IsTime text instant = IsTimeOf (layout_read (rfc3339_parts 9) (pos 0) text) (Ok instant)

-- the text names no instant
abbrev pub IsNoTime : List ℕ → TimeFault → Type 0
IsNoTime text fault = IsTimeOf (layout_read (rfc3339_parts 9) (pos 0) text) (Err fault)

-- where a time goes wrong: at its first byte, where it reads as a time but names no instant
abbrev pub place_of : TimeFault → ℕ
place_of (Mismatch at) = at
place_of OutOfRange = 0
