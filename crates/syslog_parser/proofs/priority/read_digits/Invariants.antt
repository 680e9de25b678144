use Rattle.std.proofs.Common.{◌≡◌, ◌<◌, ◌^◌, ℕ, true, take, get_or}
use Rattle.std.specs.Char.{is_ascii_digit}
use Rattle.time_layout.specs.Atoms.{value_of}
use Rattle.syslog_parser.proofs.priority.read_digits.Given as goal

abbrev pub invariant-loop-count : goal.invariant-loop-count
invariant-loop-count l = record { value : l.value ≡ value_of (take l.count l.bytes); bounded : l.value < 10 ^ l.count; digits : (k : ℕ) → k < l.count → is_ascii_digit (get_or l.bytes k 0) ≡ true }
