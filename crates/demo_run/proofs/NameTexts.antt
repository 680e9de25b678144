-- The names that a script gives are different and short.
use Rattle.std.proofs.Common.{◌≡◌, ℕ, ◌+◌, ◌<◌, ◌≤◌, ◌==◌, List, [], ◌∷◌, ◌++◌, length, true, false, ap, arith, length-append}
use Rattle.std.specs.Prelude.{codes, decimal, if◌then◌else◌}
use Rattle.std.proofs.lemmas.Fmt.{decimal_injective, decimal_nonempty, length-decimal-le}
use Rattle.std.proofs.lemmas.List.{append_cancel_right}
use Rattle.demo_run.specs.Script.{log_name, rotated_name}
use Rattle.outside.specs.Path.{slash, components, in_front, relative}
use Rattle.standing.specs.Pass.{IsReachable}

-- the name of a log, or one that a file got in one of these rounds
pub data IsGiven (most : ℕ) (path : List ℕ) : Type 0 where
  of_log : (log : ℕ) → log < 3 → path ≡ log_name log → IsGiven most path
  of_rotation : (round : ℕ) → round ≤ most → path ≡ rotated_name round → IsGiven most path

pub given_later : (most more : ℕ) (path : List ℕ) → most ≤ more → IsGiven most path → IsGiven more path
given_later most more path within (of_log log some is) = of_log log some is
given_later most more path within (of_rotation round few is) = of_rotation round (omega (arith, few, within)) is

-- ---- which are different

pub one_log : (log other : ℕ) → log < 3 → other < 3 → log_name log ≡ log_name other → log ≡ other
one_log log other some some_other same =
    let behind : decimal log ++ codes ".log" ≡ decimal other ++ codes ".log" = cc (same) in
    decimal_injective log other (omega (arith, some)) (omega (arith, some_other)) (append_cancel_right (decimal log) (decimal other) (codes ".log") behind)

pub one_rotation : (round other : ℕ) → round ≤ 1000 → other ≤ 1000 → rotated_name round ≡ rotated_name other → round ≡ other
one_rotation round other few few_other same =
    let behind : decimal round ≡ decimal other = cc (same) in
    decimal_injective round other (omega (arith, few)) (omega (arith, few_other)) behind

log_length : (log : ℕ) → log < 3 → length (log_name log) ≤ 6
log_length log some = omega (arith, length-append (decimal log) (codes ".log"), length-decimal-le 1 log (omega arith) (omega (arith, some)) (omega (arith, some)))

rotated_length : (round : ℕ) → round ≤ 1000 → (8 ≤ length (rotated_name round)) × (length (rotated_name round) ≤ 11)
rotated_length round few = (
  omega (arith, decimal_nonempty round (omega (arith, few))),
  omega (arith, length-decimal-le 4 round (omega arith) (omega (arith, few)) (omega (arith, few))),
)

pub no_log : (log round : ℕ) → log < 3 → round ≤ 1000 → log_name log ≡ rotated_name round → ⊥
no_log log round some few same = omega (arith, ap length same, log_length log some, (rotated_length round few).0)

-- ---- which are short

pub given_short : (path : List ℕ) → IsGiven 1000 path → length path ≤ 11
given_short path (of_log log some is) = omega (arith, ap length is, log_length log some)
given_short path (of_rotation round few is) = omega (arith, ap length is, (rotated_length round few).1)

front_short : (byte : ℕ) (parts : List (List ℕ)) → length (in_front byte parts) ≤ length parts + 1
front_short byte [] = omega arith
front_short byte (part ∷ parts) = omega arith

few_components : (text : List ℕ) → length (components text) ≤ length text + 1
few_components [] = omega arith
few_components (byte ∷ text) =
    let behind = few_components text in
    elim (byte == slash) as (λ t. length (if t then [] ∷ components text else in_front byte (components text)) ≤ length (byte ∷ text) + 1) [
      | true ↦ omega (arith, behind)
      | false ↦ omega (arith, behind, front_short byte (components text))
    ]

relative_short : (path : List ℕ) → length (relative path) ≤ length path
relative_short [] = omega arith
relative_short (byte ∷ rest) = elim (byte == slash) as (λ t. length (if t then rest else byte ∷ rest) ≤ length (byte ∷ rest)) [ true ↦ omega arith | false ↦ omega arith ]

pub given_reachable : (path : List ℕ) → IsGiven 1000 path → IsReachable path
given_reachable path given = omega (arith, given_short path given, few_components (relative path), relative_short path)
