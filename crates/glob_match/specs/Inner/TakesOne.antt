-- Whether a unit matches one character alone. A star, which matches any number, isn't asked.
use Rattle.std.specs.Prelude.{ℕ, Bool, true, false, ◌==◌}
use Rattle.glob_match.specs.declared.pattern.Unit.{Unit}
use Rattle.glob_match.specs.declared.pattern.Unit.TheVariants.{Plain, Escaped, One, Star, Class}
use Rattle.glob_match.specs.CharacterSet.{admits}

abbrev pub takes_one : Unit → ℕ → Bool
takes_one (Plain own) c = c == own
takes_one (Escaped own) c = c == own
takes_one One c = true
takes_one Star c = false
takes_one (Class set) c = admits set c
