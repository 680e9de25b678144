-- Where the time of a line can't be read, the bytes before the place begin a time of its form.
use Rattle.std.proofs.Common.{◌≡◌, ℕ, ◌≤◌, List, take, sym, ap, subst, pos, Ok, Err, arith}
use Rattle.std.proofs.Math.ListN.{length-take}
use Rattle.std.proofs.Math.Seq.{take-take}
use Rattle.std.specs.List.{position_or_len, before_first}
use Rattle.time_layout.specs.Atoms.{Reading}
use Rattle.time_layout.specs.Beginnings.{IsBeginning}
use Rattle.time_layout.specs.Instant.{IsTimeOf}
use Rattle.time_layout.specs.Iso.{rfc3339_parts}
use Rattle.time_layout.specs.Parts.{layout_read}
use Rattle.time_layout.specs.declared.fault.TimeFault.TheVariants.{Mismatch}
use Rattle.time_layout.specs.declared.parts.Said.{Said}
use Rattle.time_layout.proofs.BegunParts.{begins_up_to_fault, iso_parts_separate}
use Rattle.container_parser.specs.Times.{IsNoTime}
use Rattle.container_parser.specs.Words.{is_space}

refused : (reading : Reading Said) (at : ℕ) → IsTimeOf reading (Err (Mismatch at)) → reading ≡ Err (Mismatch at)
refused (Ok read) at is = let never = is.0 in cc
refused (Err fault) at is = let same : Mismatch at ≡ fault = cc is in ap Err (sym same)

pub wrong_time_begins : (line : List ℕ) (at : ℕ) → IsNoTime (before_first is_space line) (Mismatch at) → IsBeginning (rfc3339_parts 9) (pos 0) (take at line)
wrong_time_begins line at none =
    let word : List ℕ = before_first is_space line in
    let reached = begins_up_to_fault (rfc3339_parts 9) (pos 0) word at (iso_parts_separate 9 (omega arith)) (refused (layout_read (rfc3339_parts 9) (pos 0) word) at none) in
    let few : at ≤ position_or_len is_space line = omega (arith, reached.0, length-take (position_or_len is_space line) line) in
    subst (λ (bytes : List ℕ). IsBeginning (rfc3339_parts 9) (pos 0) bytes) (take-take at (position_or_len is_space line) line few) reached.1
