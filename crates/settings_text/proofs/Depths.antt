-- Which of two depths passes a limit.
use Rattle.std.proofs.Common.{◌≡◌, ℕ, max, true, false, nat_lt, arith}
use Rattle.std.proofs.lemmas.Bool.Decides.{nat_tests}

pub max_passes : (most a b : ℕ) → nat_lt most a ≡ true → nat_lt most (max a b) ≡ true
max_passes most a b h = grind (arith, nat_tests)

pub max_rest : (most a b : ℕ) → nat_lt most a ≡ false → nat_lt most (max a b) ≡ nat_lt most b
max_rest most a b h = grind (arith, nat_tests)
