-- Counts since 1970, as numbers and as texts.
use Rattle.std.specs.Prelude.{◌≡◌, ℕ, ◌+◌, ◌*◌, List, length, take, ◌==◌, ◌&&◌, nat_lt, if◌then◌else◌, pos, Result, Ok, Err}
use Rattle.std.specs.Char.{is_ascii_digit}
use Rattle.std.specs.List.{prefix_len}
use Rattle.time_layout.specs.declared.epoch.EpochKind.{EpochKind}
use Rattle.time_layout.specs.declared.epoch.EpochKind.TheVariants.{S, Ms, Us, Ns, SMs, SUs, SNs}
use Rattle.time_layout.specs.declared.fault.TimeFault.{TimeFault}
use Rattle.time_layout.specs.declared.fault.TimeFault.TheVariants.{Mismatch}
use Rattle.time_layout.specs.Atoms.{Reading, and_then, value_of, stands, fraction}
use Rattle.time_layout.specs.Instant.{IsCounted}

-- how many nanoseconds one of the count is
abbrev pub unit_of : EpochKind → ℕ
unit_of S = 1_000_000_000
unit_of Ms = 1_000_000
unit_of Us = 1_000
unit_of Ns = 1
unit_of SMs = 1_000_000_000
unit_of SUs = 1_000_000_000
unit_of SNs = 1_000_000_000

-- how many digits may stand behind a point
abbrev pub most_digits : EpochKind → ℕ
most_digits S = 0
most_digits Ms = 0
most_digits Us = 0
most_digits Ns = 0
most_digits SMs = 3
most_digits SUs = 6
most_digits SNs = 9

abbrev pub fraction_behind : EpochKind → List ℕ → ℕ → Reading ℕ
fraction_behind kind text at =
    if nat_lt 0 (most_digits kind) && stands 46 text at then fraction (most_digits kind) text (at + 1) else Ok (0, at)

-- one or more digits, and a point and a fraction where the kind has one, in nanoseconds
abbrev pub epoch_read : EpochKind → List ℕ → Reading ℕ
epoch_read kind text =
    let whole = prefix_len is_ascii_digit text in
    if whole == 0 then Err (Mismatch 0) else
    and_then (fraction_behind kind text whole) (λ nanos next.
    if nat_lt next (length text) then Err (Mismatch next)
    else Ok (value_of (take whole text) * unit_of kind + nanos, next))

abbrev pub IsEpochTimeOf : Reading ℕ → Result ℕ TimeFault → Type 0
IsEpochTimeOf (Ok read) result = IsCounted (pos read.0) result
IsEpochTimeOf (Err fault) result = result ≡ Err fault
