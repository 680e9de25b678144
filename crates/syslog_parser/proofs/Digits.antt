-- Numbers of few digits.
use Rattle.std.proofs.Common.{◌^◌, ◌<◌, ◌≤◌, ℕ, arith}
use Rattle.std.proofs.Math.Nat.{pow-le-pow_right}

-- one more digit fits 32 bits
pub room : (value count : ℕ) → value < 10 ^ count → count ≤ 8 → value < 100_000_000
room value count small few =
    let most : 10 ^ count ≤ 10 ^ 8 = pow-le-pow_right (omega arith) few in omega arith
