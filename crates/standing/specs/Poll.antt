-- What a poll is made by.
use Rattle.std.specs.Prelude.{◌≡◌, ℕ, [], Bool, true, Option, is_some}
use Rattle.standing.specs.Eras.{Eras, last_era, era_count}
use Rattle.standing.specs.Rules.{Rules}

pub record Poll : Type 0 where
  -- the rules of the last settings, and how many there were with these
  pub rules : Rules
  pub era : ℕ
  -- no checkpoint stood before it
  pub first : Bool
  -- the time that its lines have, where they have one
  pub stamp : Option ℕ

-- a poll under the last of these settings
abbrev pub poll_in : Eras → Bool → Option ℕ → Poll
poll_in eras first stamp = record { rules = last_era eras; era = era_count eras; first = first; stamp = stamp }

-- The first poll stands in the first era, and lines have a time exactly where the settings ask for it.
pub record IsPollIn (eras : Eras) (first : Bool) (stamp : Option ℕ) : Type 0 where
  pub first_era : first ≡ true → eras.later ≡ []
  pub stamped : is_some stamp ≡ (last_era eras).stamps

-- and it flushes nothing
pub record IsPlainIn (eras : Eras) (first : Bool) (stamp : Option ℕ) : Type 0 where
  pub is_poll : IsPollIn eras first stamp
  pub no_flush : (last_era eras).flush_after ≡ 0
