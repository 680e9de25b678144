-- What halving costs: each comparison leaves at most half of the places.
use Rattle.std.proofs.Common.{◌≡◌, ℕ, ◌+◌, ◌*◌, ◌-◌, ◌^◌, ◌<◌, ◌≤◌, suc, refl, arith}
use Rattle.std.proofs.Math.Nat.{pow-succ', mul-le-mul_left}

-- of `count` places `width` are left, and the steps went from `from` to `now`
pub record Halves (count from now width : ℕ) : Type 0 where
  pub counted : from ≤ now
  pub left : 2 ^ (now - from) * width ≤ count
  pub cost : 2 ^ (now - from) ≤ 2 * count + 1
  pub compared : now ≡ from → width ≡ count

pub halves_none : (count from : ℕ) → Halves count from from count
halves_none count from = record {
  counted = omega arith;
  left = grind arith;
  cost = grind arith;
  compared = λ _. refl;
}

pub halves_more : (count from now width next : ℕ) → Halves count from now width → 0 < width → 2 * next ≤ width → Halves count from (now + 1) next
halves_more count from now width next h some half =
    let same : now + 1 - from ≡ suc (now - from) = omega (arith, h.counted) in
    let twice : 2 ^ (now + 1 - from) ≡ 2 * 2 ^ (now - from) = rw same (pow-succ' 2 (now - from)) in
    let power = 2 ^ (now - from) in
    let times : 2 ^ (now - from) * (2 * next) ≤ 2 ^ (now - from) * width = mul-le-mul_left (2 ^ (now - from)) half in
    let one : 2 ^ (now - from) * 1 ≤ 2 ^ (now - from) * width = mul-le-mul_left (2 ^ (now - from)) some in
    record {
      counted = omega (arith, h.counted);
      left = rw twice (grind (arith, times, h.left));
      cost = rw twice (grind (arith, one, h.left));
      compared = λ e. absurd (omega (arith, h.counted, e));
    }
