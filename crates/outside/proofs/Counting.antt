-- Counts of faults, over several calls.
use Rattle.std.proofs.Common.{◌≡◌, ℕ, arith}
use Rattle.outside.specs.Count.{Rose, NeverFalls}

pub never_falls_none : (count : ℕ) → NeverFalls count count
never_falls_none count = record { later = omega arith; in_range = λ within. within }

pub never_falls_same : {before after : ℕ} → after ≡ before → NeverFalls before after
never_falls_same same = record { later = omega arith; in_range = λ within. omega arith }

pub never_falls_rose : {before after : ℕ} → Rose before after → NeverFalls before after
never_falls_rose rose = record { later = rose.0; in_range = λ _. rose.2 }

pub never_falls_then : {start mid end : ℕ} → NeverFalls start mid → NeverFalls mid end → NeverFalls start end
never_falls_then a b = record { later = omega (arith, a.later, b.later); in_range = λ within. b.in_range (a.in_range within) }
